-- Rows that tell whether a guard leaves a vector with a finite coordinate 0.
use Rattle.std.specs.Prelude.{◌≢◌, List}
use Rattle.trop_theory.specs.Semiring.{Semiring}
use Rattle.trop_theory.specs.Vectors.{entry, dot}
use Rattle.trop_theory.specs.Inequalities.{Inequality, IsTrueAt}
use Rattle.cone_claims.specs.declared.points.Shown.{Shown}
use Rattle.cone_claims.specs.declared.points.Shown.TheVariants.{Kept, Dropped, Right}

-- the inequality is true at the row, whose coordinate 0 is finite
abbrev pub IsKeptPoint : {V : Type 0} → Semiring V → Inequality V → List V → Type 0
IsKeptPoint R p g = IsTrueAt R p g × (entry R g 0 ≢ R.zero)

-- it is false there
abbrev pub IsDroppedPoint : {V : Type 0} → Semiring V → Inequality V → List V → Type 0
IsDroppedPoint R p g = (IsTrueAt R p g → ⊥) × (entry R g 0 ≢ R.zero)

-- it is true at the row, and its right side has a finite sum there
abbrev pub HasRight : {V : Type 0} → Semiring V → Inequality V → List V → Type 0
HasRight R p g = IsTrueAt R p g × (dot R p.right g ≢ R.zero)

-- the row shows this of the inequality
abbrev pub Shows : {V : Type 0} → Semiring V → Inequality V → Shown → List V → Type 0
Shows R p Kept g = IsKeptPoint R p g
Shows R p Dropped g = IsDroppedPoint R p g
Shows R p Right g = HasRight R p g
