-- The domain of polyhedra over variables and their opposites.
use Rattle.std.specs.Prelude.{◌≡◌, ◌*◌, false}
use Rattle.trop_theory.specs.Semiring.{Semiring}
use Rattle.trop_theory.specs.Numbers.{Numbering}
use Rattle.prog_theory.specs.Statements.{Claim}
use Rattle.dom_theory.specs.Refusals.{At, Whole}
use Rattle.dom_theory.specs.Relations.{Relations, Call, Apply, Join, Widen, Cause}
use Rattle.cone_domain.specs.Values.{Value, coordinates, cone_of}
use Rattle.cone_domain.specs.Operations.{IsIncluded, IsJoin, IsWidening}
use Rattle.cone_domain.specs.Refused.{IsRefused}
use Rattle.cone_domain.specs.Polyhedra.{nothing, everything, greatest_width, width_of}
use Rattle.mixed_theory.specs.Twins.{twice}
use Rattle.mixed_theory.specs.Halves.{variables, IsMixedImage, IsImageRefused}
use Rattle.mixed_theory.specs.Claims.{IsProvedOn}

-- Images are refused by their halves, joins and widenings as those of polyhedra.
abbrev pub IsMixedRefused : {V : Type 0} → Semiring V → Numbering V → Call (Value V) → Cause → At → Type 0
IsMixedRefused R N (Apply op v) cause part = (part ≡ Whole) × IsImageRefused R N op v cause
IsMixedRefused R N (Join v other) cause part = IsRefused R N false (Join v other) cause part
IsMixedRefused R N (Widen v next) cause part = IsRefused R N false (Widen v next) cause part

abbrev pub mixed : {V : Type 0} → Semiring V → Numbering V → Relations (Value V)
mixed R N = record {
  vars = variables;
  bottom = λ d. nothing (2 * d);
  top = λ d. everything R (2 * d);
  has = λ v s. cone_of R v (twice R N s);
  within = IsIncluded R;
  applied = IsMixedImage R N;
  joined = IsJoin R;
  widened = IsWidening R;
  refused = IsMixedRefused R N;
  width = λ v. width_of v.kept;
  max_width = λ d. greatest_width;
}

-- a value proves a claim that is proved on its cone
abbrev pub IsProvedBy : {V : Type 0} → Semiring V → Numbering V → Claim → Value V → Type 0
IsProvedBy R N claim v = IsProvedOn R N (variables v) (coordinates v) (cone_of R v) claim
