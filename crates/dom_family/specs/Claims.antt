-- Claims that a domain proves.
use Rattle.std.specs.Prelude.{ℕ, All}
use Rattle.prog_theory.specs.States.{State}
use Rattle.prog_theory.specs.Statements.{Claim}
use Rattle.prog_theory.specs.Fits.{FitsTerm}
use Rattle.prog_theory.specs.Within.{IsClaim}
use Rattle.cone_reports.specs.Claims.{IsTrueOf}
use Rattle.dom_theory.specs.Relations.{Relations}

-- a claim on so many variables, whose sides have terms
pub record IsClaimOn (vars : ℕ) (claim : Claim) : Type 0 where
  pub sides : IsClaim claim
  pub left : All (FitsTerm vars) claim.left.terms
  pub right : All (FitsTerm vars) claim.right.terms

-- A claim whose words are judged is true, in ordinary numbers, of each state of a sound value that proves it.
pub record ClaimLaws {V : Type 0} (D : Relations V) (vars : ℕ) (Sound : V → Type 0) (suits : Claim → Type 0)
    (proven : Claim → V → Type 0) : Type 0 where
  pub true_of : (claim : Claim) (v : V) → Sound v → suits claim → IsClaimOn vars claim → proven claim v →
      (s : State) → D.has v s → IsTrueOf claim s
