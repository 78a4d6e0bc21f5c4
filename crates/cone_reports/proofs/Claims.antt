-- A claim is proven by the truth of its inequalities: read in the semiring they say what the claim says in numbers.
use Rattle.std.proofs.Common.{◌≡◌, ℕ, suc, ℤ, Bool, List, [], ◌∷◌, length, sym, ap, ◌∙◌, subst, subst₂, arith}
use Rattle.std.specs.Prelude.{◌≤ℤ◌, ◌↔◌, All}
use Rattle.std.proofs.lemmas.List.Elements.{All-head, All-tail, All-cons, All-nil}
use Rattle.std.proofs.lemmas.Int.{ints}
use Rattle.trop_theory.specs.Semiring.{Semiring, SemiringLaws}
use Rattle.trop_theory.specs.Vectors.{dot}
use Rattle.trop_theory.specs.Numbers.{Numbering, NumericLaws}
use Rattle.trop_theory.specs.Inequalities.{IsTrueAt}
use Rattle.prog_theory.specs.States.{State, Term, value}
use Rattle.prog_theory.specs.Statements.{Rel, AtMost, AtLeast, Same, SideWord, One, Greatest, Least, Claim}
use Rattle.prog_theory.proofs.Conditions.{le_both}
use Rattle.cone_reports.specs.Vectors.{vector}
use Rattle.cone_reports.specs.Sides.{side, at_most}
use Rattle.cone_reports.specs.Claims.{IsValueOf, Relates, IsTrueOf}
use Rattle.cone_reports.specs.Readings.{related, claim_inequalities, SuitsClaim}
use Rattle.cone_reports.proofs.Sides.{length-side}
use Rattle.cone_reports.proofs.Truths.{at_most_is_order}
use Rattle.cone_reports.proofs.SideValues.{side_value}

le_itself : (y : ℤ) → y ≤ℤ y
le_itself y = omega (arith, ints)

module _ {V : Type 0} {R : Semiring V} {N : Numbering V} {reversed : Bool} (laws : SemiringLaws R)
    (numbers : NumericLaws R N reversed) (vars : ℕ) (s : State) (l : length s ≡ vars) where
  -- a side has one value
  one_value : (w : SideWord) (ts : List Term) (y z : ℤ) → IsValueOf w s ts y → IsValueOf w s ts z → y ≡ z
  one_value One ts y z (t, e, p) (u, f, q) = let same : t ≡ u = cc in sym p ∙ ap (λ t. value t s) same ∙ q
  one_value Greatest ts y z h k = le_both y z (subst (λ v. v ≤ℤ z) h.reaches (k.above h.term h.listed))
      (subst (λ v. v ≤ℤ y) k.reaches (h.above k.term k.listed))
  one_value Least ts y z h k = le_both y z (subst (λ v. y ≤ℤ v) k.reaches (h.below k.term k.listed))
      (subst (λ v. z ≤ℤ v) h.reaches (k.below h.term h.listed))

  -- the inequalities of two sides with the values y and z
  related_is_order : (rel : Rel) (a b : List V) (y z : ℤ) → length a ≡ suc vars → length b ≡ suc vars
      → dot R a (vector R N s) ≡ N.of y → dot R b (vector R N s) ≡ N.of z
      → All (λ p. IsTrueAt R p (vector R N s)) (related reversed rel a b) ↔ Relates rel y z
  related_is_order AtMost a b y z la lb p q =
      let there = at_most_is_order laws numbers vars s l a b y z la lb p q in (
        λ h. there.0 (All-head (λ p. IsTrueAt R p (vector R N s)) (at_most reversed a b) [] h),
        λ h. All-cons (λ p. IsTrueAt R p (vector R N s)) (at_most reversed a b) [] (there.1 h)
            (All-nil (λ p. IsTrueAt R p (vector R N s))),
      )
  related_is_order AtLeast a b y z la lb p q =
      let back = at_most_is_order laws numbers vars s l b a z y lb la q p in (
        λ h. back.0 (All-head (λ p. IsTrueAt R p (vector R N s)) (at_most reversed b a) [] h),
        λ h. All-cons (λ p. IsTrueAt R p (vector R N s)) (at_most reversed b a) [] (back.1 h)
            (All-nil (λ p. IsTrueAt R p (vector R N s))),
      )
  related_is_order Same a b y z la lb p q =
      let T = λ (p : _). IsTrueAt R p (vector R N s) in
      let there = at_most_is_order laws numbers vars s l a b y z la lb p q in
      let back = at_most_is_order laws numbers vars s l b a z y lb la q p in (
        λ h. le_both y z (there.0 (All-head T (at_most reversed a b) (at_most reversed b a ∷ []) h))
            (back.0 (All-head T (at_most reversed b a) []
            (All-tail T (at_most reversed a b) (at_most reversed b a ∷ []) h))),
        λ e. All-cons T (at_most reversed a b) (at_most reversed b a ∷ [])
            (there.1 (subst (λ v. y ≤ℤ v) e (le_itself y)))
            (All-cons T (at_most reversed b a) [] (back.1 (subst (λ v. v ≤ℤ y) e (le_itself y))) (All-nil T)),
      )

  -- A claim's inequalities are true at the vector of a state exactly where the claim is true at the state.
  pub claim_truth : (claim : Claim) → SuitsClaim reversed vars claim
      → All (λ p. IsTrueAt R p (vector R N s)) (claim_inequalities R N reversed (suc vars) claim) ↔ IsTrueOf claim s
  claim_truth claim suits =
      let a = side_value laws numbers vars s l claim.left.word claim.left.terms suits.words.0 suits.sides.0 suits.left
      in
      let b = side_value laws numbers vars s l claim.right.word claim.right.terms suits.words.1 suits.sides.1
      suits.right in
      let order = related_is_order claim.rel (side R N (suc vars) claim.left.terms)
      (side R N (suc vars) claim.right.terms) a.0 b.0 (length-side laws numbers vars claim.left.terms)
      (length-side laws numbers vars claim.right.terms) a.1.sum b.1.sum in (
        λ h. record {
          first = a.0;
          second = b.0;
          is_first = a.1.is_value;
          is_second = b.1.is_value;
          related = order.0 h;
        },
        λ t. order.1 (subst₂ (Relates claim.rel)
            (one_value claim.left.word claim.left.terms t.first a.0 t.is_first a.1.is_value)
            (one_value claim.right.word claim.right.terms t.second b.0 t.is_second b.1.is_value) t.related),
      )
