-- Which claims a zone proves: by pairs of terms. What a claim says in numbers is in `cone_reports`.
use Rattle.std.specs.Prelude.{◌≤ℤ◌, ℕ, List, All, Any, Option, Some, None}
use Rattle.prog_theory.specs.States.{State, Term, value}
use Rattle.prog_theory.specs.Statements.{SideWord, One, Greatest, Least, Rel, AtMost, AtLeast, Same, Side, Claim}
use Rattle.zone_theory.specs.Matrices.{Matrix, InZone}

-- What it means that one side is at most another, where P says it of two terms. A side of one term is its greatest and
-- its least.
abbrev pub Below : (Term → Term → Type 0) → SideWord → List Term → SideWord → List Term → Type 0
Below P Greatest ls Greatest rs = All (λ l. Any (λ r. P l r) rs) ls
Below P Greatest ls One rs = All (λ l. Any (λ r. P l r) rs) ls
Below P Greatest ls Least rs = All (λ l. All (λ r. P l r) rs) ls
Below P One ls Greatest rs = All (λ l. Any (λ r. P l r) rs) ls
Below P One ls One rs = All (λ l. All (λ r. P l r) rs) ls
Below P One ls Least rs = All (λ l. All (λ r. P l r) rs) ls
Below P Least ls Greatest rs = Any (λ l. Any (λ r. P l r) rs) ls
Below P Least ls One rs = All (λ r. Any (λ l. P l r) ls) rs
Below P Least ls Least rs = All (λ r. Any (λ l. P l r) ls) rs

abbrev pub SideBelow : (Term → Term → Type 0) → Side → Side → Type 0
SideBelow P l r = Below P l.word l.terms r.word r.terms

-- what a claim says, where P says that a term is at most another
abbrev pub Compared : (Term → Term → Type 0) → Rel → Side → Side → Type 0
Compared P AtMost l r = SideBelow P l r
Compared P AtLeast l r = SideBelow P r l
Compared P Same l r = SideBelow P l r × SideBelow P r l

-- The claim is proved on the zone, pair by pair of terms: a pair is proved where it holds at each state of the zone. On
-- the empty zone each claim is.
abbrev pub IsProved : ℕ → Option Matrix → Claim → Type 0
IsProved d None c = Unit {0}
IsProved d (Some m) c = Compared (λ l r. (s : State) → InZone d m s → value l s ≤ℤ value r s) c.rel c.left c.right
