-- What a claim says of a state, in ordinary numbers.
use Rattle.std.specs.Prelude.{◌≡◌, ℤ, ◌≤ℤ◌, List, [], ◌∷◌, Contains}
use Rattle.prog_theory.specs.States.{State, Term, value}
use Rattle.prog_theory.specs.Statements.{Rel, AtMost, AtLeast, Same, SideWord, One, Greatest, Least, Claim}

-- z is the greatest of the values of the terms
pub record IsGreatest (s : State) (terms : List Term) (z : ℤ) : Type 0 where
  pub term : Term
  pub listed : Contains terms term
  pub reaches : value term s ≡ z
  pub above : (t : Term) → Contains terms t → value t s ≤ℤ z

-- z is the least of the values of the terms
pub record IsLeast (s : State) (terms : List Term) (z : ℤ) : Type 0 where
  pub term : Term
  pub listed : Contains terms term
  pub reaches : value term s ≡ z
  pub below : (t : Term) → Contains terms t → z ≤ℤ value t s

-- z is the value of a side with this word: that of its one term, the greatest or the least
abbrev pub IsValueOf : SideWord → State → List Term → ℤ → Type 0
IsValueOf One s terms z = (t : Term) × (terms ≡ t ∷ []) × (value t s ≡ z)
IsValueOf Greatest s terms z = IsGreatest s terms z
IsValueOf Least s terms z = IsLeast s terms z

abbrev pub Relates : Rel → ℤ → ℤ → Type 0
Relates AtMost y z = y ≤ℤ z
Relates AtLeast y z = z ≤ℤ y
Relates Same y z = y ≡ z

-- the claim is true at the state: its sides have values, and these are so related
pub record IsTrueOf (claim : Claim) (s : State) : Type 0 where
  pub first : ℤ
  pub second : ℤ
  pub is_first : IsValueOf claim.left.word s claim.left.terms first
  pub is_second : IsValueOf claim.right.word s claim.right.terms second
  pub related : Relates claim.rel first second
