use Rattle.std.proofs.Common.{arith, sym, subst}
use Rattle.std.specs.Prelude.{All}
use Rattle.trop_row.specs.Mixing.{CanMix}
use Rattle.trop_row.proofs.StepMoves.{mixed_read}
use Rattle.trop_row.proofs.step.fresh_rows.Goals as goal

pub fresh_of-requires-clause-mix : goal.fresh_of-requires-clause-mix
fresh_of-requires-clause-mix g c =
    subst (λ v. All (CanMix g.S.Scalar.ring c.args.ineq.now v) c.args.dropped.now) (sym c.row-item.is)
    (c.requires.mix c.loop-row.row-index c.row-item.result (omega arith))

pub loop-row-preserved : goal.loop-row-preserved
loop-row-preserved g c =
    rw c.in_ok-append.ensures.items
    (mixed_read g.S.Scalar.ring c.args.ineq.now c.args.dropped.now c.args.kept.now c.loop-row.out.items
    c.loop-row.row-index c.row-item.result _ c.loop-row.invariant (omega arith) c.row-item.is c.in_ok-front.ensures)
