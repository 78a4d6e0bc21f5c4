-- A cone that is given by its canonical list.
use Rattle.std.specs.Prelude.{◌≤◌, ◌↔◌, ℕ, List, length}
use Rattle.trop_theory.specs.Semiring.{Semiring}
use Rattle.trop_theory.specs.Combinations.{IsCombination}
use Rattle.trop_theory.specs.Canonical.{IsCanonical, row_limit}

-- the rows are the canonical list of the cone, at most as many as the limit, and generate it
pub record Represents {V : Type 0} (R : Semiring V) (n : ℕ) (cone : List V → Type 0)
    (rows : List (List V)) : Type 0 where
  pub canonical : IsCanonical R cone rows
  pub generates : (x : List V) → cone x ↔ IsCombination R n rows x
  pub within : length rows ≤ row_limit
