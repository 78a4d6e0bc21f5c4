-- How a claim is read in a semiring: as one inequality, or as one for each direction of an equality.
use Rattle.std.specs.Prelude.{◌≡◌, ℕ, Bool, true, false, List, [], ◌∷◌, All}
use Rattle.trop_theory.specs.Semiring.{Semiring}
use Rattle.trop_theory.specs.Numbers.{Numbering}
use Rattle.trop_theory.specs.Inequalities.{Inequality, IsValidOn}
use Rattle.prog_theory.specs.Statements.{Rel, AtMost, AtLeast, Same, SideWord, One, Greatest, Least, Claim}
use Rattle.prog_theory.specs.Fits.{FitsTerm}
use Rattle.prog_theory.specs.Within.{IsClaim}
use Rattle.cone_reports.specs.Sides.{at_most, side}

abbrev pub related : {V : Type 0} → Bool → Rel → List V → List V → List (Inequality V)
related reversed AtMost l r = at_most reversed l r ∷ []
related reversed AtLeast l r = at_most reversed r l ∷ []
related reversed Same l r = at_most reversed l r ∷ at_most reversed r l ∷ []

abbrev pub claim_inequalities : {V : Type 0} → Semiring V → Numbering V → Bool → ℕ → Claim → List (Inequality V)
claim_inequalities R N reversed n claim =
    related reversed claim.rel (side R N n claim.left.terms) (side R N n claim.right.terms)

-- each inequality of the claim is valid on the cone
abbrev pub IsProvenOn : {V : Type 0} → Semiring V → Numbering V → Bool → ℕ → (List V → Type 0) → Claim → Type 0
IsProvenOn R N reversed n cone claim = All (IsValidOn R cone) (claim_inequalities R N reversed n claim)

-- A side may have the word of the semiring's sum, or none: the greatest where the order is that of numbers, the least
-- where it is reversed.
abbrev pub SuitsWord : Bool → SideWord → Type 0
SuitsWord reversed One = Unit {0}
SuitsWord reversed Greatest = reversed ≡ false
SuitsWord reversed Least = reversed ≡ true

-- both sides of a claim have suitable words
abbrev pub SuitsWords : Bool → Claim → Type 0
SuitsWords reversed claim = SuitsWord reversed claim.left.word × SuitsWord reversed claim.right.word

-- a claim on so many variables that the semiring can judge
pub record SuitsClaim (reversed : Bool) (vars : ℕ) (claim : Claim) : Type 0 where
  pub words : SuitsWords reversed claim
  pub sides : IsClaim claim
  pub left : All (FitsTerm vars) claim.left.terms
  pub right : All (FitsTerm vars) claim.right.terms
