use Rattle.std.proofs.Common.{ap, sym, subst, arith, ◌∙◌, true≢false}
use Rattle.trop_pairs.specs.Sums.{AreTerms}
use Rattle.trop_pairs.proofs.Listing.{terms_first, terms_skip, terms_take, terms_all}
use Rattle.trop_pairs.proofs.terms.terms_of.Goals as goal
use Rattle.trop_pairs.proofs.terms.terms_of.Goals.{then-not-is_zero+in_ok-push, else-not-is_zero}

pub loop-place-init : goal.loop-place-init
loop-place-init g c = terms_first g.S.Scalar.ring c.as_slice-entries.result.now c.in_ok-terms.terms.items
    c.in_ok-terms.ensures.items

pub loop-place-preserved : goal.loop-place-preserved
loop-place-preserved g c = elim c.if-not-is_zero.branch [
  | then-not-is_zero+in_ok-push w ↦ terms_take g.S.Scalar.ring c.as_slice-entries.result.now c.loop-place.place
      c.index-entries-place.result c.loop-place.terms.items c.loop-place-test.true c.index-entries-place.is
      c.loop-place.invariant c.if-not-is_zero.terms.items
      (λ z. true≢false (sym (c.is_zero.ensures.1 z) ∙ w.if-not-is_zero.true))
      (ap (λ v. v.items) w.terms-is ∙ w.in_ok-push.ensures.items)
  | else-not-is_zero w ↦ terms_skip g.S.Scalar.ring c.as_slice-entries.result.now c.loop-place.place
      c.index-entries-place.result c.loop-place.terms.items c.loop-place-test.true c.index-entries-place.is
      c.loop-place.invariant c.if-not-is_zero.terms.items (ap (λ v. v.items) w.terms-is)
      (c.is_zero.ensures.0 w.if-not-is_zero.false)
]

pub returns : goal.returns
returns g c = subst (λ y. AreTerms g.S.Scalar.ring y c.loop-place.terms.items) c.as_slice-entries.ensures.entries
    (terms_all g.S.Scalar.ring c.as_slice-entries.result.now c.loop-place.place c.loop-place.terms.items
    (omega arith) c.loop-place.invariant)
