use Rattle.std.proofs.Common.{◌+◌, ◌++◌, [], ◌∷◌, true≢false, sym, ◌∙◌, refl, subst}
use Rattle.trop_dd.specs.Parts.{IsSplit}
use Rattle.trop_dd.proofs.Parting.{facts, left_fits, right_fits, sums_here, holds_here, fails_here, true_here, kept_here, dropped_here}
use Rattle.trop_dd.proofs.Splits.{split_drop, split_keep, split_keep_alone, additions_more}
use Rattle.trop_dd.proofs.splitting.split_side.Goals as goal

pub sums_at-sums-requires-clause-left : goal.sums_at-sums-requires-clause-left
sums_at-sums-requires-clause-left g c =
    left_fits g.met.S.Scalar.ring_laws c.args.system.now.n c.args.system.now.inequalities c.args.ineq.now
    c.args.sides.now c.requires.next c.args.place c.requires.within c.index-sides-place.result c.index-sides-place.is
    c.row.result.now c.row.ensures
    c.args.terms.now.left.items c.args.terms.now.right.items c.requires.terms

pub sums_at-sums-requires-clause-right : goal.sums_at-sums-requires-clause-right
sums_at-sums-requires-clause-right g c =
    right_fits g.met.S.Scalar.ring_laws c.args.system.now.n c.args.system.now.inequalities c.args.ineq.now
    c.args.sides.now c.requires.next c.args.place c.requires.within c.index-sides-place.result c.index-sides-place.is
    c.row.result.now c.row.ensures
    c.args.terms.now.left.items c.args.terms.now.right.items c.requires.terms

pub addition_of-requires-clause-side : goal.addition_of-requires-clause-side
addition_of-requires-clause-side g c =
    (facts g.met.S.Scalar.ring_laws c.args.system.now.n c.args.system.now.inequalities c.args.ineq.now
    c.args.sides.now c.requires.next c.args.place c.requires.within c.index-sides-place.result
    c.index-sides-place.is).carried

pub addition_of-requires-clause-some : goal.addition_of-requires-clause-some
addition_of-requires-clause-some g c =
    (facts g.met.S.Scalar.ring_laws c.args.system.now.n c.args.system.now.inequalities c.args.ineq.now
    c.args.sides.now c.requires.next c.args.place c.requires.within c.index-sides-place.result
    c.index-sides-place.is).some

pub addition_of-requires-clause-holds : goal.addition_of-requires-clause-holds
addition_of-requires-clause-holds g c =
    true_here g.met.S.Scalar.ring_laws c.args.system.now.n c.args.system.now.inequalities c.args.ineq.now
    c.args.sides.now c.requires.next c.args.place c.requires.within c.index-sides-place.result c.index-sides-place.is
    (holds_here g.met.S.Scalar.ring_laws c.args.system.now.n c.args.system.now.inequalities c.args.ineq.now
    c.args.sides.now c.requires.next c.args.place c.requires.within c.index-sides-place.result c.index-sides-place.is
    c.row.result.now c.row.ensures c.sums_at-sums.result
    (c.sums_at-sums.ensures.sums c.args.ineq.now c.requires.terms) (c.le.ensures.0 c.if-not-le.false))

pub addition_of-requires-clause-slot : goal.addition_of-requires-clause-slot
addition_of-requires-clause-slot g c =
    (c.slot_of-slot.ensures c.args.ineq.now c.index-sides-place.result.row
    (sums_here g.met.S.Scalar.ring_laws c.args.system.now.n c.args.system.now.inequalities c.args.ineq.now
    c.args.sides.now c.requires.next c.args.place c.requires.within c.index-sides-place.result c.index-sides-place.is
    c.row.result.now c.row.ensures c.sums_at-sums.result
    (c.sums_at-sums.ensures.sums c.args.ineq.now c.requires.terms)))

pub addition_of-requires-clause-sizes : goal.addition_of-requires-clause-sizes
addition_of-requires-clause-sizes g c =
    (facts g.met.S.Scalar.ring_laws c.args.system.now.n c.args.system.now.inequalities c.args.ineq.now
    c.args.sides.now c.requires.next c.args.place c.requires.within c.index-sides-place.result
    c.index-sides-place.is).slots

pub returns-then-not-le-clause-split : goal.returns-then-not-le-clause-split
returns-then-not-le-clause-split g c =
    let fails = fails_here g.met.S.Scalar.ring_laws c.args.system.now.n c.args.system.now.inequalities c.args.ineq.now
    c.args.sides.now c.requires.next c.args.place c.requires.within c.index-sides-place.result c.index-sides-place.is
    c.row.result.now c.row.ensures c.sums_at-sums.result
    (c.sums_at-sums.ensures.sums c.args.ineq.now c.requires.terms)
    (λ h. true≢false (sym (c.le.ensures.1 h) ∙ c.if-not-le.true)) in
    let sums = sums_here g.met.S.Scalar.ring_laws c.args.system.now.n c.args.system.now.inequalities c.args.ineq.now
    c.args.sides.now c.requires.next c.args.place c.requires.within c.index-sides-place.result c.index-sides-place.is
    c.row.result.now c.row.ensures c.sums_at-sums.result
    (c.sums_at-sums.ensures.sums c.args.ineq.now c.requires.terms) in
    subst (IsSplit g.S.Scalar.ring c.args.ineq.now c.args.sides.now
    (c.args.place + 1) c.args.split.now.stay.items c.args.split.now.kept.items) (sym c.in_ok-push.ensures.items)
    (split_drop g.S.Scalar.ring c.args.ineq.now c.args.sides.now c.args.place c.args.split.now.stay.items
    c.args.split.now.kept.items c.args.split.now.dropped.items c.index-sides-place.result c.requires.within
    c.index-sides-place.is c.requires.split (record {
      place = c.args.place;
      sum = c.sums_at-sums.result.left.value;
      reached = c.sums_at-sums.result.left.reached;
      words = c.words.result;
    }) refl
    (dropped_here g.met.S.Scalar.ring_laws c.args.system.now.n c.args.system.now.inequalities c.args.ineq.now
    c.args.sides.now c.requires.next c.args.place c.requires.within c.index-sides-place.result c.index-sides-place.is
    (record {
      place = c.args.place;
      sum = c.sums_at-sums.result.left.value;
      reached = c.sums_at-sums.result.left.reached;
      words = c.words.result;
    }) refl
    fails sums.left.value sums.left.reached c.words.ensures) fails)

pub returns-then-not-le-clause-additions : goal.returns-then-not-le-clause-additions
returns-then-not-le-clause-additions g c =
    let fails = fails_here g.met.S.Scalar.ring_laws c.args.system.now.n c.args.system.now.inequalities c.args.ineq.now
    c.args.sides.now c.requires.next c.args.place c.requires.within c.index-sides-place.result c.index-sides-place.is
    c.row.result.now c.row.ensures c.sums_at-sums.result
    (c.sums_at-sums.ensures.sums c.args.ineq.now c.requires.terms)
    (λ h. true≢false (sym (c.le.ensures.1 h) ∙ c.if-not-le.true)) in
    additions_more g.S.Scalar.ring c.args.system.now.n c.args.system.now.inequalities c.args.ineq.now c.args.sides.now
    c.args.place c.args.split.now.additions.items _ c.nothing.result c.index-sides-place.result c.requires.within
    c.index-sides-place.is c.requires.additions c.in_ok-push-2.ensures.items (λ h. absurd (fails h))

pub returns-in_ok-push-5-clause-split : goal.returns-in_ok-push-5-clause-split
returns-in_ok-push-5-clause-split g c =
    let holds = holds_here g.met.S.Scalar.ring_laws c.args.system.now.n c.args.system.now.inequalities c.args.ineq.now
    c.args.sides.now c.requires.next c.args.place c.requires.within c.index-sides-place.result c.index-sides-place.is
    c.row.result.now c.row.ensures c.sums_at-sums.result
    (c.sums_at-sums.ensures.sums c.args.ineq.now c.requires.terms) (c.le.ensures.0 c.if-not-le.false) in
    let slot =
    (c.slot_of-slot.ensures c.args.ineq.now c.index-sides-place.result.row
    (sums_here g.met.S.Scalar.ring_laws c.args.system.now.n c.args.system.now.inequalities c.args.ineq.now
    c.args.sides.now c.requires.next c.args.place c.requires.within c.index-sides-place.result c.index-sides-place.is
    c.row.result.now c.row.ensures c.sums_at-sums.result
    (c.sums_at-sums.ensures.sums c.args.ineq.now c.requires.terms))) in
    let sums = sums_here g.met.S.Scalar.ring_laws c.args.system.now.n c.args.system.now.inequalities c.args.ineq.now
    c.args.sides.now c.requires.next c.args.place c.requires.within c.index-sides-place.result c.index-sides-place.is
    c.row.result.now c.row.ensures c.sums_at-sums.result
    (c.sums_at-sums.ensures.sums c.args.ineq.now c.requires.terms) in
    subst (λ a. IsSplit g.S.Scalar.ring c.args.ineq.now c.args.sides.now
    (c.args.place + 1) a c.push-then-not-is_zero.new.self.items c.args.split.now.dropped.items)
    (sym c.in_ok-push-4.ensures.items)
    (subst (λ a. IsSplit g.S.Scalar.ring c.args.ineq.now c.args.sides.now (c.args.place + 1)
    (c.args.split.now.stay.items ++ c.args.place ∷ []) a c.args.split.now.dropped.items)
    (sym c.in_ok-push-5.ensures.items)
    (split_keep g.S.Scalar.ring c.args.ineq.now c.args.sides.now c.args.place c.args.split.now.stay.items
    c.args.split.now.kept.items c.args.split.now.dropped.items c.index-sides-place.result c.requires.within
    c.index-sides-place.is c.requires.split holds (record { place = c.args.place; slot = c.slot_of-slot.result }) refl
    (kept_here g.met.S.Scalar.ring_laws c.args.system.now.n c.args.system.now.inequalities c.args.ineq.now
    c.args.sides.now c.requires.next c.args.place c.requires.within c.index-sides-place.result c.index-sides-place.is
    c.slot_of-slot.result holds slot
    (λ z. true≢false (sym (c.is_zero.ensures.1 (sums.right.value ∙ sym slot.sum ∙ z)) ∙ c.if-not-is_zero.true)))))

pub returns-in_ok-push-5-clause-additions : goal.returns-in_ok-push-5-clause-additions
returns-in_ok-push-5-clause-additions g c =
    additions_more g.S.Scalar.ring c.args.system.now.n c.args.system.now.inequalities c.args.ineq.now c.args.sides.now
    c.args.place c.args.split.now.additions.items _ c.in_ok-added.added c.index-sides-place.result c.requires.within
    c.index-sides-place.is c.requires.additions c.in_ok-push-3.ensures.items (λ h. c.in_ok-added.ensures.addition)

pub returns-else-not-is_zero-clause-split : goal.returns-else-not-is_zero-clause-split
returns-else-not-is_zero-clause-split g c =
    let holds = holds_here g.met.S.Scalar.ring_laws c.args.system.now.n c.args.system.now.inequalities c.args.ineq.now
    c.args.sides.now c.requires.next c.args.place c.requires.within c.index-sides-place.result c.index-sides-place.is
    c.row.result.now c.row.ensures c.sums_at-sums.result
    (c.sums_at-sums.ensures.sums c.args.ineq.now c.requires.terms) (c.le.ensures.0 c.if-not-le.false) in
    let sums = sums_here g.met.S.Scalar.ring_laws c.args.system.now.n c.args.system.now.inequalities c.args.ineq.now
    c.args.sides.now c.requires.next c.args.place c.requires.within c.index-sides-place.result c.index-sides-place.is
    c.row.result.now c.row.ensures c.sums_at-sums.result
    (c.sums_at-sums.ensures.sums c.args.ineq.now c.requires.terms) in
    subst (λ a. IsSplit g.S.Scalar.ring c.args.ineq.now c.args.sides.now
    (c.args.place + 1) a c.args.split.now.kept.items c.args.split.now.dropped.items)
    (sym c.in_ok-push-4.ensures.items)
    (split_keep_alone g.S.Scalar.ring c.args.ineq.now c.args.sides.now c.args.place c.args.split.now.stay.items
    c.args.split.now.kept.items c.args.split.now.dropped.items c.index-sides-place.result c.requires.within
    c.index-sides-place.is c.requires.split holds (sym sums.right.value ∙ c.is_zero.ensures.0 c.if-not-is_zero.false))

pub returns-else-not-is_zero-clause-additions : goal.returns-else-not-is_zero-clause-additions
returns-else-not-is_zero-clause-additions g c =
    additions_more g.S.Scalar.ring c.args.system.now.n c.args.system.now.inequalities c.args.ineq.now c.args.sides.now
    c.args.place c.args.split.now.additions.items _ c.in_ok-added.added c.index-sides-place.result c.requires.within
    c.index-sides-place.is c.requires.additions c.in_ok-push-3.ensures.items (λ h. c.in_ok-added.ensures.addition)
