-- Blocks as lists of statements.
use Rattle.std.proofs.Common.{◌≡◌, ◌<◌, ℕ, zero, suc, List, [], ◌∷◌, ◌++◌, Some, length, get_or, slice_get, refl, sym, ap, arith}
use Rattle.prog_theory.specs.Statements as tree
use Rattle.prog_theory.specs.Blocks.{statements, and_then}
use Rattle.prog_tree.specs.declared.block.Stmt.{Stmt}
use Rattle.prog_tree.specs.Stmts.{stmt_of, block_of}

pub block_of_push : (xs : List Stmt) (x : Stmt) → block_of (xs ++ x ∷ []) ≡ and_then (block_of xs) (stmt_of x)
block_of_push [] x = refl
block_of_push (y ∷ xs) x = ap (tree.Then (stmt_of y)) (block_of_push xs x)

pub statements_length : (xs : List Stmt) → length (statements (block_of xs)) ≡ length xs
statements_length [] = refl
statements_length (x ∷ xs) = ap suc (statements_length xs)

pub statements_get : (xs : List Stmt) (k : ℕ) (x : Stmt) → k < length xs → x ≡ get_or xs k x
    → slice_get (statements (block_of xs)) k ≡ Some (stmt_of x)
statements_get [] k x h e = absurd (omega arith)
statements_get (y ∷ xs) zero x h e = ap (λ (z : Stmt). Some (stmt_of z)) (sym e)
statements_get (y ∷ xs) (suc k) x h e = statements_get xs k x (omega arith) e
