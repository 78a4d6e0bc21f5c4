-- The domain keeps the laws of a domain.
use Rattle.std.proofs.Common.{◌≡◌, inl, inr, false, ◌*◌, ◌/◌, ℕ, Option, Some, None, MatchOption, length, sym, ap, ◌∙◌, subst, arith}
use Rattle.trop_theory.specs.Semiring.{Semiring, SemiringLaws}
use Rattle.trop_theory.specs.Numbers.{Numbering, NumericLaws}
use Rattle.prog_theory.specs.States.{State}
use Rattle.prog_theory.specs.Edges.{Op}
use Rattle.prog_theory.specs.Fits.{FitsOp}
use Rattle.prog_theory.specs.Walks.{Leads}
use Rattle.dom_theory.specs.Refusals.{At, Whole}
use Rattle.dom_theory.specs.Relations.{Call, Apply, Join, Widen, Cause}
use Rattle.dom_theory.specs.Laws.{VarsLaws, OneAnswer, StateLaws, WidthLaws, PartLaws, DomainLaws}
use Rattle.cone_reports.specs.Vectors.{vector}
use Rattle.cone_reports.proofs.Points.{length_from_cone}
use Rattle.cone_domain.specs.Values.{Value, cone_of, IsValue}
use Rattle.cone_domain.specs.Polyhedra.{nothing}
use Rattle.cone_domain.proofs.Values.{value_cone}
use Rattle.cone_domain.proofs.Answers.{polyhedra_one}
use Rattle.cone_domain.proofs.States.{polyhedra_states, polyhedra_parts}
use Rattle.cone_domain.proofs.Widths.{polyhedra_widths}
use Rattle.mixed_theory.specs.Twins.{twin, twice}
use Rattle.mixed_theory.specs.Halves.{second_half, variables, IsHalf, IsMixedImage, IsHalfRefused, IsImageRefused}
use Rattle.mixed_theory.specs.Mixed.{mixed, IsMixedRefused}
use Rattle.mixed_theory.proofs.Twins.{length-twin, half_of_double, half_of_twin}
use Rattle.mixed_theory.proofs.Halves.{HalfLeads, halves_lead}

nothing_again : {V : Type 0} (v : Value V) (n : ℕ) → v ≡ nothing n → v ≡ nothing v.vars
nothing_again v n e = e ∙ ap nothing (sym (ap (λ (u : Value _). u.vars) e))

module _ {V : Type 0} {R : Semiring V} {N : Numbering V} (laws : SemiringLaws R) (numbers : NumericLaws R N false) where
  -- a half keeps the variables, gives one value, and has the states to which it leads
  pub half_vars : (k : Option Op) (v w : Value V) → IsHalf R N k v w → w.vars ≡ v.vars
  half_vars None v w h = ap (λ (u : Value V). u.vars) h
  half_vars (Some op) v w h = h.gives.vars_are

  half_one : (k : Option Op) (v y z : Value V) → IsHalf R N k v y → IsHalf R N k v z → y ≡ z
  half_one None v y z h g = h ∙ sym g
  half_one (Some op) v y z h g = (polyhedra_one laws N false).applied op v y z h g

  half_states : (k : Option Op) (v w : Value V) (s t : State) → IsHalf R N k v w → cone_of R v (vector R N s)
      → HalfLeads k s t → cone_of R w (vector R N t)
  half_states None v w s t h has e = subst (λ (u : Value V). cone_of R u (vector R N t)) (sym h)
      (subst (λ s. cone_of R v (vector R N s)) (sym e) has)
  half_states (Some op) v w s t h has leads = (polyhedra_states laws numbers).applied op v w s t h has leads

  -- the states of a value have as many numbers as it has variables
  pub length_of_state : (v : Value V) (s : State) → IsValue R v → cone_of R v (twice R N s) → variables v ≡ length s
  length_of_state v s h has = half_of_twin s v.vars
      (length_from_cone laws numbers v.vars (cone_of R v) (value_cone laws v h) (twin s) has)

  image_vars : (op : Op) (v w : Value V) → IsMixedImage R N op v w → w.vars ≡ v.vars
  image_vars op v w h = half_vars (second_half (variables v) op) h.between w h.second ∙ h.first.gives.vars_are

  image_one : (op : Op) (v y z : Value V) → IsMixedImage R N op v y → IsMixedImage R N op v z → y ≡ z
  image_one op v y z h g =
      let same = (polyhedra_one laws N false).applied op v g.between h.between g.first h.first in
      half_one (second_half (variables v) op) h.between y z h.second
      (subst (λ u. IsHalf R N (second_half (variables v) op) u z) same g.second)

  image_states : (op : Op) (v w : Value V) (s t : State) → IsMixedImage R N op v w → cone_of R v (twice R N s)
      → Leads op s t → cone_of R w (twice R N t)
  image_states op v w s t h has leads =
      let size = length_of_state v s h.first.value has in
      let r = halves_lead op s t (subst (λ d. FitsOp d op) size h.fits) leads in
      half_states (second_half (variables v) op) h.between w r.0 (twin t) h.second
      ((polyhedra_states laws numbers).applied op v h.between (twin s) r.0 h.first has r.1)
      (subst (λ d. HalfLeads (second_half d op) r.0 (twin t)) (sym size) r.2)

  -- a half is refused for one cause, and the second isn't judged where the first is refused
  half_cause : (op : Op) (v : Value V) (c d : Cause) → IsHalfRefused R N op v c → IsHalfRefused R N op v d → c ≡ d
  half_cause op v c d h g = (polyhedra_one laws N false).cause (Apply op v) c d Whole Whole h g

  second_cause : (k : Option Op) (v : Value V) (c d : Cause)
      → MatchOption k ⊥ (λ half. IsHalfRefused R N half v c)
      → MatchOption k ⊥ (λ half. IsHalfRefused R N half v d) → c ≡ d
  second_cause None v c d h g = absurd h
  second_cause (Some op) v c d h g = half_cause op v c d h g

  image_cause : (op : Op) (v : Value V) (c d : Cause) → IsImageRefused R N op v c → IsImageRefused R N op v d → c ≡ d
  image_cause op v c d (inl h) (inl g) = half_cause op v c d h g
  image_cause op v c d (inl h) (inr g) = absurd (g.free c h)
  image_cause op v c d (inr h) (inl g) = absurd (h.free d g)
  image_cause op v c d (inr h) (inr g) =
      let same = (polyhedra_one laws N false).applied op v g.between h.between g.first h.first in
      second_cause (second_half (variables v) op) h.between c d h.refused
      (subst (λ u. MatchOption (second_half (variables v) op) ⊥ (λ half. IsHalfRefused R N half u d)) same g.refused)

  one_refusal : (call : Call (Value V)) (c d : Cause) (a b : At) → IsMixedRefused R N call c a
      → IsMixedRefused R N call d b → (c ≡ d) × (a ≡ b)
  one_refusal (Apply op v) c d a b h g = (image_cause op v c d h.1 g.1, h.0 ∙ sym g.0)
  one_refusal (Join v other) c d a b h g = let one = polyhedra_one laws N false in
      (one.cause (Join v other) c d a b h g, one.part (Join v other) c d a b h g)
  one_refusal (Widen v next) c d a b h g = let one = polyhedra_one laws N false in
      (one.cause (Widen v next) c d a b h g, one.part (Widen v next) c d a b h g)

  half : (v w : Value V) → w.vars ≡ v.vars → variables w ≡ variables v
  half v w e = ap (λ n. n / 2) e

  mixed_vars : VarsLaws (mixed R N)
  mixed_vars = record {
    bottom = half_of_double;
    top = half_of_double;
    applied = λ op v w h. half v w (image_vars op v w h);
    joined = λ v other w h e. half v w h.gives.vars_are;
    widened = λ v next w h e. half v w h.vars_are;
  }

  mixed_one : OneAnswer (mixed R N)
  mixed_one = let one = polyhedra_one laws N false in record {
    applied = image_one;
    joined = one.joined;
    widened = one.widened;
    cause = λ call c d a b h g. (one_refusal call c d a b h g).0;
    part = λ call c d a b h g. (one_refusal call c d a b h g).1;
  }

  mixed_parts : PartLaws (mixed R N)
  mixed_parts = let parts = polyhedra_parts laws numbers in record {
    applied = λ op v cause part h. h.0;
    joined = parts.joined;
    widened = parts.widened;
  }

  pub mixed_states : StateLaws (mixed R N)
  mixed_states = let states = polyhedra_states laws numbers in record {
    none = λ d s. states.none (2 * d) (twin s);
    all = λ d s l. states.all (2 * d) (twin s) (omega (arith, length-twin s, l));
    within = λ v w s. states.within v w (twin s);
    applied = image_states;
    left = λ v other w s. states.left v other w (twin s);
    right = λ v other w s. states.right v other w (twin s);
  }

  mixed_widths : (most : ℕ) → WidthLaws (mixed R N) most
  mixed_widths most = let widths = polyhedra_widths laws numbers most in record {
    bounded = widths.bounded;
    small = widths.small;
    falls = widths.falls;
    joined = λ v other w h leaves e. widths.joined v other w h leaves (nothing_again w (2 * variables w) e);
    widened = λ v next w h e. widths.widened v next w h (nothing_again w (2 * variables w) e);
  }

  pub mixed_laws : (most : ℕ) → DomainLaws (mixed R N) most
  mixed_laws most = record {
    vars = mixed_vars;
    one = mixed_one;
    parts = mixed_parts;
    states = mixed_states;
    widths = mixed_widths most;
  }
