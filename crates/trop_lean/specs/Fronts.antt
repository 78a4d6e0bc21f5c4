-- Systems of which no front has too many extreme rows.
use Rattle.std.specs.Prelude.{◌≤◌, ℕ, List, length, take}
use Rattle.trop_theory.specs.Semiring.{Semiring}
use Rattle.trop_theory.specs.Inequalities.{Inequality, Solves}
use Rattle.trop_theory.specs.Canonical.{IsOverLimit}
use Rattle.trop_cones.specs.RowStops.{IsRowsStop}
use Rattle.trop_dd.specs.declared.error.DdErr.{DdErr}
use Rattle.trop_dd.specs.declared.error.DdErr.TheVariants.{Limit, NoMemory}

-- the solutions of each front are within the limit
abbrev pub AreFrontsWithin : {V : Type 0} → Semiring V → ℕ → List (Inequality V) → Type 0
AreFrontsWithin R n system = (j : ℕ) → j ≤ length system → IsOverLimit R (Solves R n (take j system)) → ⊥

-- why the conversion of a system was refused
abbrev pub IsStoppedAt : {V : Type 0} → Semiring V → ℕ → List (Inequality V) → DdErr → Type 0
IsStoppedAt R n system (Limit k) = IsRowsStop R n system k
IsStoppedAt R n system NoMemory = Unit {0}
