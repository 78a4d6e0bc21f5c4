-- The atoms of a program: its comparisons and `?`.
use Rattle.std.specs.Prelude.{ℕ, ◌+◌}
use Rattle.prog_theory.specs.Conditions.{Cond, Any, Atom, Not, And, Or}
use Rattle.prog_theory.specs.Statements.{Stmt, Set, Havoc, Assume, Assert, If, While, Skip, Block, Empty, Then}

abbrev pub cond_atoms : Cond → ℕ
cond_atoms Any = 1
cond_atoms (Atom l c r) = 1
cond_atoms (Not a) = cond_atoms a
cond_atoms (And a b) = cond_atoms a + cond_atoms b
cond_atoms (Or a b) = cond_atoms a + cond_atoms b

abbrev mutual
  pub stmt_atoms : Stmt → ℕ
  stmt_atoms (Assume c) = cond_atoms c
  stmt_atoms (If c a b) = cond_atoms c + block_atoms a + block_atoms b
  stmt_atoms (While c a) = cond_atoms c + block_atoms a
  stmt_atoms _ = 0

  pub block_atoms : Block → ℕ
  block_atoms Empty = 0
  block_atoms (Then st b) = stmt_atoms st + block_atoms b
