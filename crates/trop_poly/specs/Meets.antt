-- Why the part of a cone that solves a system is refused.
use Rattle.std.specs.Prelude.{ℕ, List}
use Rattle.trop_theory.specs.Semiring.{Semiring}
use Rattle.trop_theory.specs.Inequalities.{Inequality}
use Rattle.trop_cones.specs.RowStops.{IsMeetStop}
use Rattle.trop_poly.specs.declared.error.PolyErr.{PolyErr}
use Rattle.trop_poly.specs.declared.error.PolyErr.TheVariants.{Rows, Polar, NoMemory}

-- the first k inequalities are the least front whose solutions have too large a part in common with the cone
abbrev pub IsPartRefusal : {V : Type 0} → Semiring V → (List V → Type 0) → ℕ → List (Inequality V) → PolyErr → Type 0
IsPartRefusal R cone n system (Rows k) = IsMeetStop R cone n system k
IsPartRefusal R cone n system (Polar i j) = ⊥
IsPartRefusal R cone n system NoMemory = Unit {0}
