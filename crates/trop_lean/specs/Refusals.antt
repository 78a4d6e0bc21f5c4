-- Why a list was not made lean.
use Rattle.std.specs.Prelude.{ℕ, List}
use Rattle.trop_theory.specs.Semiring.{Semiring}
use Rattle.trop_theory.specs.Inequalities.{Inequality}
use Rattle.trop_duality.specs.LeanStops.{IsLeanStop}
use Rattle.trop_lean.specs.declared.error.LeanErr.{LeanErr}
use Rattle.trop_lean.specs.declared.error.LeanErr.TheVariants.{Rows, NoMemory}

-- turn k is the first whose rest has a front with too many extreme rows, and its first j inequalities are the least
abbrev pub IsLeanRefusal : {V : Type 0} → Semiring V → ℕ → List (Inequality V) → LeanErr → Type 0
IsLeanRefusal R n system (Rows k j) = IsLeanStop R n system k j
IsLeanRefusal R n system NoMemory = Unit {0}
