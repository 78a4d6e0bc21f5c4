use Rattle.std.proofs.Common.{arith, ap, sym, ◌∙◌, length, true≢false}
use Rattle.trop_theory.specs.Inequalities.{IsTrueAt}
use Rattle.cone_claims.proofs.Loops.{read_within, each_found, each_more, not_each}
use Rattle.mixed_claims.specs.Terms.{read_inequality}
use Rattle.mixed_claims.proofs.sums.is_below_at_each.Goals as goal

pub is_below_at-requires-clause-wide : goal.is_below_at-requires-clause-wide
is_below_at-requires-clause-wide g c =
    ap length c.row-item.is ∙ c.requires.wide c.loop-row.row-index c.row-item.result (omega arith)

pub is_below_at-requires-clause-size : goal.is_below_at-requires-clause-size
is_below_at-requires-clause-size g c =
    read_within g.S.Scalar.ring c.args.rows.now c.loop-row.row-index _ _ c.row-item.is (omega arith) c.requires.size

pub returns-then-not-is_below_at : goal.returns-then-not-is_below_at
returns-then-not-is_below_at g c =
    not_each (IsTrueAt g.S.Scalar.ring (read_inequality g.S.Scalar.ring g.S.Scalar.numbering c.args.reading c.args.vars
    c.args.left.now c.args.right.now))
    c.args.rows.now c.loop-row.row-index c.row-item.result c.row-item.is (omega arith)
    (λ h. true≢false (sym (c.is_below_at.ensures.1 h) ∙ c.if-not-is_below_at.true))

pub loop-row-preserved : goal.loop-row-preserved
loop-row-preserved g c =
    each_more (IsTrueAt g.S.Scalar.ring (read_inequality g.S.Scalar.ring g.S.Scalar.numbering c.args.reading c.args.vars
    c.args.left.now c.args.right.now))
    c.args.rows.now c.loop-row.row-index c.row-item.result c.row-item.is (omega arith) c.loop-row.invariant
    (c.is_below_at.ensures.0 c.if-not-is_below_at.false)

pub returns : goal.returns
returns g c =
    each_found (IsTrueAt g.S.Scalar.ring
    (read_inequality g.S.Scalar.ring g.S.Scalar.numbering c.args.reading c.args.vars
    c.args.left.now c.args.right.now)) c.args.rows.now c.loop-row.row-index (omega arith) c.loop-row.invariant
