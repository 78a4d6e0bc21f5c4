-- A call gives one value at most, and is refused for one cause at one part at most.
use Rattle.std.proofs.Common.{◌≡◌, inl, inr, ℕ, Bool, List, length, Some, sym, ap, ◌∙◌, refl, subst}
use Rattle.std.specs.Prelude.{take}
use Rattle.trop_theory.specs.Semiring.{Semiring, SemiringLaws}
use Rattle.trop_theory.specs.Numbers.{Numbering}
use Rattle.trop_theory.specs.Inequalities.{Inequality, Solves, IsValidOn}
use Rattle.trop_theory.specs.Canonical.{IsCanonical}
use Rattle.trop_theory.specs.StepList.{AreChosen}
use Rattle.trop_theory.proofs.Unique.{IsCanonical-unique}
use Rattle.trop_theory.proofs.Distinct.{within_limit}
use Rattle.trop_duality.proofs.External.{IsExternal-unique}
use Rattle.trop_theory.proofs.StepLists.{chosen_unique}
use Rattle.trop_duality.proofs.PolarStops.{IsPolarStop-unique}
use Rattle.trop_cones.proofs.Meets.{IsFirstOver-unique}
use Rattle.dom_theory.specs.Refusals.{At, Whole, Polar, Kept}
use Rattle.dom_theory.specs.Relations.{Call, Apply, Join, Widen, Cause, OverLimit, OutOfRange}
use Rattle.dom_theory.specs.Laws.{OneAnswer}
use Rattle.cone_domain.specs.Values.{Value, coordinates, cone_of, IsFreshFor}
use Rattle.cone_domain.specs.Operations.{IsBase, IsKeptList, IsWidening}
use Rattle.cone_domain.specs.Refused.{IsRefusedFor, IsListRefused, IsPartRefused, IsRefused}
use Rattle.cone_domain.specs.Polyhedra.{polyhedra}
use Rattle.cone_domain.proofs.Values.{value_same}

module _ {V : Type 0} {R : Semiring V} (laws : SemiringLaws R) where
  same_rows_of : (C : List V → Type 0) (xs ys : List (List V)) → IsCanonical R C xs → IsCanonical R C ys → xs ≡ ys
  same_rows_of C xs ys h k = IsCanonical-unique laws C C xs ys (λ x. (λ c. c, λ c. c)) h k

  pub fresh_unique : (vars : ℕ) (C : List V → Type 0) (v w : Value V) → IsFreshFor R vars C v → IsFreshFor R vars C w
      → v ≡ w
  fresh_unique vars C v w h k = value_same v w (h.vars_are ∙ sym k.vars_are)
      (same_rows_of C v.rows w.rows h.rows_are k.rows_are) (h.no_list ∙ sym k.no_list)

  pub base_unique : (v : Value V) (a b : List (Inequality V)) → IsBase R v a → IsBase R v b → a ≡ b
  base_unique v a b (inl e) (inl f) = cc
  base_unique v a b (inl e) (inr f) = let g = f.0 in cc
  base_unique v a b (inr e) (inl f) = let g = e.0 in cc
  base_unique v a b (inr e) (inr f) = IsExternal-unique laws (coordinates v) (cone_of R v) (cone_of R v) a b
      (λ x. (λ c. c, λ c. c)) e.1 f.1

  pub kept_unique : (v next : Value V) (a b : List (Inequality V)) → IsKeptList R v next a → IsKeptList R v next b
      → a ≡ b
  kept_unique v next a b h k =
      chosen_unique (IsValidOn R (cone_of R next)) h.base a b h.chosen
      (subst (λ l. AreChosen (IsValidOn R (cone_of R next)) l b)
      (base_unique v k.base h.base k.is_base h.is_base) k.chosen)

  pub widening_unique : (v next y z : Value V) → IsWidening R v next y → IsWidening R v next z → y ≡ z
  widening_unique v next y z h k =
      let lists = kept_unique v next h.list k.list h.is_kept k.is_kept in
      value_same y z (h.vars_are ∙ sym k.vars_are)
      (same_rows_of (Solves R (coordinates v) h.list) y.rows z.rows h.rows_are
      (subst (λ l. IsCanonical R (Solves R (coordinates v) l) z.rows) (sym lists) k.rows_are))
      (h.kept_are ∙ ap Some lists ∙ sym k.kept_are)

  one_cause : (C : List V → Type 0) (c d : Cause) → IsRefusedFor R C c → IsRefusedFor R C d → c ≡ d
  one_cause C OverLimit OverLimit h k = refl
  one_cause C OverLimit OutOfRange h k = absurd (within_limit R C k.rows k.canonical k.few h)
  one_cause C OutOfRange OverLimit h k = absurd (within_limit R C h.rows h.canonical h.few k)
  one_cause C OutOfRange OutOfRange h k = refl

  one_of_list : (n : ℕ) (list : List (Inequality V)) (c d : Cause) (k l : ℕ) → IsListRefused R n list c k
      → IsListRefused R n list d l → (c ≡ d) × (k ≡ l)
  one_of_list n list OverLimit OverLimit k l h g =
      (refl, IsFirstOver-unique R (λ j. Solves R n (take j list)) (length list) k l h g)
  one_of_list n list OverLimit OutOfRange k l h g = absurd (g.1 k h)
  one_of_list n list OutOfRange OverLimit k l h g = absurd (h.1 l g)
  one_of_list n list OutOfRange OutOfRange k l h g = (refl, h.0 ∙ sym g.0)

  one_part : (v next : Value V) (c d : Cause) (a b : At) → IsPartRefused R v next c a → IsPartRefused R v next d b
      → (c ≡ d) × (a ≡ b)
  one_part v next c d Whole b h g = absurd h
  one_part v next c d (Polar i k) Whole h g = absurd g
  one_part v next c d (Polar i k) (Polar j l) h g =
      let u = IsPolarStop-unique R (coordinates v) v.rows i k j l h.2 g.2 in
      (h.0 ∙ sym g.0, ap (λ x. Polar x k) u.0 ∙ ap (Polar j) u.1)
  one_part v next c d (Polar i k) (Kept l) h g = absurd (g.unstopped h.1 i k h.2)
  one_part v next c d (Kept k) Whole h g = absurd g
  one_part v next c d (Kept k) (Polar j l) h g = absurd (h.unstopped g.1 j l g.2)
  one_part v next c d (Kept k) (Kept l) h g =
      let lists = kept_unique v next h.list g.list h.is_kept g.is_kept in
      let u = one_of_list (coordinates v) h.list c d k l h.refused
      (subst (λ s. IsListRefused R (coordinates v) s d l) (sym lists) g.refused) in
      (u.0, ap Kept u.1)

module _ {V : Type 0} {R : Semiring V} (laws : SemiringLaws R) (N : Numbering V) (reversed : Bool) where
  one_refusal : (call : Call (Value V)) (c d : Cause) (a b : At) → IsRefused R N reversed call c a
      → IsRefused R N reversed call d b → (c ≡ d) × (a ≡ b)
  one_refusal (Apply op v) c d a b h k = (one_cause laws _ c d h.1 k.1, h.0 ∙ sym k.0)
  one_refusal (Join v other) c d a b h k = (one_cause laws _ c d h.1 k.1, h.0 ∙ sym k.0)
  one_refusal (Widen v next) c d a b h k = one_part laws v next c d a b h k

  pub polyhedra_one : OneAnswer (polyhedra R N reversed)
  polyhedra_one = record {
    applied = λ op v y z h k. fresh_unique laws v.vars _ y z h.gives k.gives;
    joined = λ v other y z h k. fresh_unique laws v.vars _ y z h.gives k.gives;
    widened = widening_unique laws;
    cause = λ call c d a b h k. (one_refusal call c d a b h k).0;
    part = λ call c d a b h k. (one_refusal call c d a b h k).1;
  }
