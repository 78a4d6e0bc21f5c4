-- The domain that knows whether the first variable of a program is zero.
use Rattle.std.specs.Prelude.{◌≡◌, ◌-◌, ◌<◌, ◌≤◌, ◌==◌, ◌&&◌, ℕ, Bool, true, false, pos}
use Rattle.std.specs.Ordering.{int_eq}
use Rattle.prog_theory.specs.States.{State, Term, coordinate}
use Rattle.prog_theory.specs.Statements.{Claim}
use Rattle.prog_theory.specs.Edges.{Op, Skips, Sets, Havocs, Guards}
use Rattle.dom_theory.specs.Relations.{Relations}
use Rattle.dom_tests.specs.declared.known.Known.{Known}
use Rattle.dom_tests.specs.declared.known.Known.TheVariants.{Nothing, Zero, Anything}
use Rattle.dom_tests.specs.declared.first_zero.FirstZero.{FirstZero}

-- how much may be
abbrev pub rank : Known → ℕ
rank Nothing = 0
rank Zero = 1
rank Anything = 2

-- the state is one of which this is known
abbrev pub IsKnown : Known → State → Type 0
IsKnown Nothing s = ⊥
IsKnown Zero s = coordinate s 1 ≡ pos 0
IsKnown Anything s = Unit {0}

-- the term is the number 0
abbrev pub is_nought : Term → Bool
is_nought t = (t.coord == 0) && int_eq t.add (pos 0)

-- what is known where the number has become zero, or any
abbrev pub set_known : Bool → Known → Known
set_known nought Nothing = Nothing
set_known true Zero = Zero
set_known true Anything = Zero
set_known false Zero = Anything
set_known false Anything = Anything

-- the first variable is changed, or another is
abbrev pub changed_known : Bool → Bool → Known → Known
changed_known true nought k = set_known nought k
changed_known false nought k = k

abbrev pub image_of : Op → Known → Known
image_of Skips k = k
image_of (Guards l r) k = k
image_of (Sets x t) k = changed_known (x == 1) (is_nought t) k
image_of (Havocs x) k = changed_known (x == 1) false k

abbrev pub join_of : Known → Known → Known
join_of Nothing b = b
join_of Zero Nothing = Zero
join_of Zero Zero = Zero
join_of Zero Anything = Anything
join_of Anything b = Anything

abbrev pub first_zero : Relations FirstZero
first_zero = record {
  vars = λ x. x.vars;
  bottom = λ n. record { vars = n; known = Nothing };
  top = λ n. record { vars = n; known = Anything };
  has = λ x s. IsKnown x.known s;
  within = λ x y. rank x.known ≤ rank y.known;
  applied = λ op x y. y ≡ record { vars = x.vars; known = image_of op x.known };
  joined = λ x other y. y ≡ record { vars = x.vars; known = join_of x.known other.known };
  widened = λ x next y. (rank x.known < rank next.known) × (y ≡ record { vars = x.vars; known = Anything });
  refused = λ call cause at. ⊥;
  width = λ x. 2 - rank x.known;
  max_width = λ n. 2;
}

-- every claim is judged, and only what has no state proves one
abbrev pub judges : Claim → Type 0
judges claim = Unit {0}

abbrev pub is_proven : Claim → FirstZero → Type 0
is_proven claim x = rank x.known ≡ 0
