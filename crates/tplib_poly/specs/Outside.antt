-- The first row of a cone that is outside of another cone.
use Rattle.std.specs.Prelude.{◌≡◌, ℕ, List, slice_get, Some}
use Rattle.trop_theory.specs.Semiring.{Semiring}
use Rattle.trop_theory.specs.Canonical.{IsCanonical}
use Rattle.trop_poly.specs.Outside.{IsFirstOutside}

-- the row is the first of the canonical list of the cone that is not in the other
pub record IsOutsider {V : Type 0} (R : Semiring V) (cone other : List V → Type 0) (row : List V) : Type 0 where
  pub rows : List (List V)
  pub place : ℕ
  pub canonical : IsCanonical R cone rows
  pub is : slice_get rows place ≡ Some row
  pub first : IsFirstOutside rows other place
