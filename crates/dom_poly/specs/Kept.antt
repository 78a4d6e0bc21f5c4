-- What every value of the code keeps.
use Rattle.std.specs.Prelude.{◌≡◌, ◌≤◌, ◌^◌, ℕ, length, Option, Some, None}
use Rattle.trop_theory.specs.Semiring.{Semiring}
use Rattle.trop_theory.specs.Vectors.{rows_size}
use Rattle.trop_theory.specs.Inequalities.{system_size}
use Rattle.trop_theory.specs.Canonical.{row_limit}
use Rattle.trop_row.specs.Lists.{InequalityList}
use Rattle.trop_poly.specs.Cones.{Cone}
use Rattle.cone_domain.specs.Values.{IsValue}
use Rattle.cone_domain.specs.Refused.{most_value}
use Rattle.dom_poly.specs.Views.{value_of}

-- the greatest size of a number in a kept list
abbrev pub most_kept : ℕ
most_kept = 2 ^ 48

-- the kept list is one in n coordinates, of small numbers
abbrev pub IsListIn : {V : Type 0} → Semiring V → ℕ → Option (InequalityList V) → Type 0
IsListIn R n None = Unit {0}
IsListIn R n (Some list) = (list.n ≡ n) × (system_size R list.inequalities ≤ most_kept)

-- a cone in 1 to 64 coordinates with small numbers, and a list that describes it
pub record IsSound {V : Type 0} (R : Semiring V) (cone : Cone V) (kept : Option (InequalityList V)) : Type 0 where
  pub at_least : 1 ≤ cone.n
  pub at_most : cone.n ≤ 64
  pub few : length cone.rows ≤ row_limit
  pub small : rows_size R cone.rows ≤ most_value
  pub list : IsListIn R cone.n kept
  pub value : IsValue R (value_of cone kept)
