-- Cones as they are kept.
use Rattle.std.specs.Prelude.{ℕ, List}
use Rattle.trop_theory.specs.Semiring.{Semiring}
use Rattle.trop_theory.specs.Combinations.{IsCombination}

-- a number of coordinates, and the canonical list of a cone in them
pub record Cone (V : Type 0) : Type 0 where
  pub n : ℕ
  pub rows : List (List V)

-- the vectors of the cone: the combinations of its rows
abbrev pub InCone : {V : Type 0} → Semiring V → Cone V → List V → Type 0
InCone R cone x = IsCombination R cone.n cone.rows x
