-- Terms and claims in so many coordinates.
use Rattle.std.specs.Prelude.{◌<◌, ◌^◌, ℕ, All}
use Rattle.prog_theory.specs.States.{Term}
use Rattle.prog_theory.specs.Statements.{Claim}
use Rattle.prog_theory.specs.Within.{IsNumberWithin}

-- the term stands at one of n coordinates, and has a number as a program may have it
abbrev pub IsOn : ℕ → Term → Type 0
IsOn n t = (t.coord < n) × IsNumberWithin (2 ^ 31) t

-- so does each term of a claim
abbrev pub IsClaimOn : ℕ → Claim → Type 0
IsClaimOn n claim = All (IsOn n) claim.left.terms × All (IsOn n) claim.right.terms
