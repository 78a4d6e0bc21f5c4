-- Claims on so many variables.
use Rattle.std.specs.Prelude.{◌^◌, ℕ, All}
use Rattle.prog_theory.specs.Statements.{Claim}
use Rattle.prog_theory.specs.Fits.{FitsTerm}
use Rattle.prog_theory.specs.Within.{IsNumberWithin}

-- each term stands at a coordinate up to the number of variables, and has a number as a program may have it
pub record FitsClaim (vars : ℕ) (claim : Claim) : Type 0 where
  pub left : All (FitsTerm vars) claim.left.terms
  pub right : All (FitsTerm vars) claim.right.terms
  pub left_numbers : All (IsNumberWithin (2 ^ 31)) claim.left.terms
  pub right_numbers : All (IsNumberWithin (2 ^ 31)) claim.right.terms
