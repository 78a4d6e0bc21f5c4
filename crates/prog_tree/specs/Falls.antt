-- The blocks within a block are smaller than it.
use Rattle.std.specs.Prelude.{◌≤◌, List, [], ◌∷◌}
use Rattle.std.proofs.Common.{arith}
use denote.Param.Weighed.{most}
use Rattle.prog_tree.specs.declared.block.Block.TheDeep.{deep-Stmt}
use Rattle.prog_tree.specs.declared.block.Stmt.{Stmt}
use Rattle.prog_tree.specs.declared.block.Stmt.TheVariants.{Set, Havoc, Assume, Assert, If, While, Skip}
use Rattle.prog_tree.specs.Stmts.{stmt_of, block_of, stmt_size, block_size}

stmt_falls : (s : Stmt) → deep-Stmt s ≤ stmt_size (stmt_of s)
stmt_falls (Set x t) = omega arith
stmt_falls (Havoc x) = omega arith
stmt_falls (Assume c) = omega arith
stmt_falls (Assert c) = omega arith
stmt_falls (If c a b) = omega arith
stmt_falls (While c a) = omega arith
stmt_falls Skip = omega arith

pub block_falls : (ss : List Stmt) → most deep-Stmt ss ≤ block_size (block_of ss)
block_falls [] = omega arith
block_falls (s ∷ ss) = omega (arith, stmt_falls s, block_falls ss)
