use Rattle.std.proofs.Common.{sym, subst, arith, ◌∙◌, true≢false}
use Rattle.std.specs.Prelude.{All}
use Rattle.trop_pairs.specs.Sums.{Fits}
use Rattle.trop_pairs.proofs.Summing.{size_fits, sum_first, sum_next, end_finite, end_zero}
use Rattle.trop_pairs.proofs.reading.sum_at.Goals as goal

pub loop-term-init : goal.loop-term-init
loop-term-init g c = sum_first g.met.S.Scalar.ring_laws c.as_slice-entries.result.now _ c.zero.ensures c.empty.ensures

pub times-product-requires : goal.times-product-requires
times-product-requires g c = size_fits g.S.Scalar.ring c.as_slice-entries.result.now c.args.terms.now
    c.loop-term.term-index c.term-item.result c.index-entries-term.result c.loop-term-test.true c.term-item.is
    (subst (λ y. All (Fits g.S.Scalar.ring y) c.args.terms.now) (sym c.as_slice-entries.ensures.entries) c.requires)
    c.index-entries-term.is

pub loop-term-preserved : goal.loop-term-preserved
loop-term-preserved g c = sum_next g.met.S.Scalar.ring_laws c.as_slice-entries.result.now c.args.terms.now
    c.loop-term.term-index c.term-item.result c.index-entries-term.result c.times-product.result c.loop-term.sum
    c.with_product-sum.result c.loop-term-test.true c.term-item.is
    (subst (λ y. All (Fits g.S.Scalar.ring y) c.args.terms.now) (sym c.as_slice-entries.ensures.entries) c.requires)
    c.index-entries-term.is
    c.times-product.ensures c.loop-term.invariant c.with_product-sum.ensures.value c.with_product-sum.ensures.reached

pub returns-then-is_zero : goal.returns-then-is_zero
returns-then-is_zero g c side are wide = end_zero g.met.S.Scalar.ring_laws c.args.row.now
    c.as_slice-entries.result.now side c.args.terms.now c.loop-term.term-index c.loop-term.sum
    c.as_slice-entries.ensures.entries are wide (omega arith) c.loop-term.invariant c.empty-sum.result
    (c.is_zero.ensures.0 c.if-is_zero.true) c.empty-sum.ensures

pub returns-else-is_zero : goal.returns-else-is_zero
returns-else-is_zero g c side are wide = end_finite g.met.S.Scalar.ring_laws c.args.row.now
    c.as_slice-entries.result.now side c.args.terms.now c.loop-term.term-index c.loop-term.sum
    c.as_slice-entries.ensures.entries are wide (omega arith) c.loop-term.invariant
    (λ z. true≢false (sym (c.is_zero.ensures.1 z) ∙ c.if-is_zero.false))
