use Rattle.std.proofs.Common.{arith, ap, sym, ◌∙◌, length, true≢false}
use Rattle.trop_theory.specs.Inequalities.{IsTrueAt, inequality_size}
use Rattle.trop_theory.specs.Sizes.{most_entry}
use Rattle.cone_claims.proofs.Loops.{each_more, not_each, read_small}
use Rattle.cone_claims.proofs.validity.holds_at_each.Goals as goal

pub holds-requires-clause-lengths : goal.holds-requires-clause-lengths
holds-requires-clause-lengths g c =
    ap length c.row-item.is ∙ c.requires.wide c.loop-row.row-index c.row-item.result (omega arith)
    ∙ sym c.requires.inside.left

pub holds-requires-clause-sizes : goal.holds-requires-clause-sizes
holds-requires-clause-sizes g c = omega (
  arith,
  read_small g.S.Scalar.ring c.args.rows.now c.loop-row.row-index c.row-item.result
      (inequality_size g.S.Scalar.ring c.args.ineq.now) most_entry c.row-item.is (omega arith) c.requires.sizes,
)

pub returns-then-not-holds : goal.returns-then-not-holds
returns-then-not-holds g c =
    not_each (IsTrueAt g.S.Scalar.ring c.args.ineq.now) c.args.rows.now c.loop-row.row-index c.row-item.result
    c.row-item.is (omega arith) (λ h. true≢false (sym (c.holds.ensures.1 h) ∙ c.if-not-holds.true))

pub loop-row-preserved : goal.loop-row-preserved
loop-row-preserved g c =
    each_more (IsTrueAt g.S.Scalar.ring c.args.ineq.now) c.args.rows.now c.loop-row.row-index c.row-item.result
    c.row-item.is (omega arith) c.loop-row.invariant (c.holds.ensures.0 c.if-not-holds.false)
