-- The statements of the theory that statements and lists of them stand for.
use Rattle.std.specs.Prelude.{ℕ, ◌+◌, List, [], ◌∷◌}
use Rattle.prog_theory.specs.Statements as tree
use Rattle.prog_tree.specs.declared.block.Stmt.{Stmt}
use Rattle.prog_tree.specs.declared.block.Stmt.TheVariants.{Set, Havoc, Assume, Assert, If, While, Skip}
use Rattle.prog_tree.specs.Terms.{term_of}
use Rattle.prog_tree.specs.Claims.{claim_of}

abbrev pub stmt_of : Stmt → tree.Stmt
stmt_of (Set x t) = tree.Set x (term_of t)
stmt_of (Havoc x) = tree.Havoc x
stmt_of (Assume c) = tree.Assume c
stmt_of (Assert c) = tree.Assert (claim_of c)
stmt_of (If c a b) = tree.If c a b
stmt_of (While c a) = tree.While c a
stmt_of Skip = tree.Skip

abbrev pub block_of : List Stmt → tree.Block
block_of [] = tree.Empty
block_of (s ∷ ss) = tree.Then (stmt_of s) (block_of ss)

-- how many statements with blocks a block has, at all depths
abbrev mutual
  pub stmt_size : tree.Stmt → ℕ
  stmt_size (tree.If c a b) = block_size a + block_size b + 1
  stmt_size (tree.While c a) = block_size a + 1
  stmt_size (tree.Set x t) = 0
  stmt_size (tree.Havoc x) = 0
  stmt_size (tree.Assume c) = 0
  stmt_size (tree.Assert c) = 0
  stmt_size tree.Skip = 0

  pub block_size : tree.Block → ℕ
  block_size tree.Empty = 0
  block_size (tree.Then s b) = stmt_size s + block_size b
