-- The numbers of the statements that are asserts, by recursion on the program. They are those of its asserts, in the
-- same order: `proofs/AssertNumbers` shows it.
use Rattle.std.specs.Prelude.{ℕ, ◌+◌, List, [], ◌∷◌, ◌++◌}
use Rattle.prog_theory.specs.Statements.{Stmt, Set, Havoc, Assume, Assert, If, While, Skip, Block, Empty, Then}
use Rattle.prog_theory.specs.Numbering.{count, counts}

-- in a statement that has the number k, and in a block whose first statement has it
abbrev mutual
  pub numbers_st : ℕ → Stmt → List ℕ
  numbers_st k (Assert c) = k ∷ []
  numbers_st k (If c a b) = numbers_bl (k + 1) a ++ numbers_bl (k + 1 + counts a) b
  numbers_st k (While c a) = numbers_bl (k + 1) a
  numbers_st k (Set x t) = []
  numbers_st k (Havoc x) = []
  numbers_st k (Assume c) = []
  numbers_st k Skip = []

  pub numbers_bl : ℕ → Block → List ℕ
  numbers_bl k Empty = []
  numbers_bl k (Then st b) = numbers_st k st ++ numbers_bl (k + count st) b
