-- Claims of asserts on zones: every claim is judged, pair by pair of terms.
use Rattle.std.specs.Prelude.{ℕ, ◌^◌, ◌≤ℤ◌, List, All}
use Rattle.prog_theory.specs.States.{State, Term, value}
use Rattle.prog_theory.specs.Statements.{Claim}
use Rattle.prog_theory.specs.Fits.{FitsTerm}
use Rattle.prog_theory.specs.Within.{IsNumberWithin}
use Rattle.zone_theory.specs.Matrices.{Matrix, InZone}
use Rattle.zone_theory.specs.Claims.{IsProved}
use Rattle.zone_lists.specs.Zones.{ZoneList, matrix_if}

abbrev pub judges : Claim → Type 0
judges claim = Unit {0}

abbrev pub is_proven : Claim → ZoneList → Type 0
is_proven claim x = IsProved x.vars (matrix_if x.vars x.bounds) claim

-- the first term is at most the second at each state of the zone
abbrev pub AtEach : ℕ → Matrix → Term → Term → Type 0
AtEach vars m l r = (s : State) → InZone vars m s → value l s ≤ℤ value r s

-- terms of so many variables, with numbers as a program may have them
pub record AreTerms (vars : ℕ) (terms : List Term) : Type 0 where
  pub fit : All (FitsTerm vars) terms
  pub small : All (IsNumberWithin (2 ^ 31)) terms
