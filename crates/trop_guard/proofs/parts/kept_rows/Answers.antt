use Rattle.std.proofs.Common.{arith, sym, ◌∙◌, true≢false}
use Rattle.trop_theory.specs.Inequalities.{IsTrueAt}
use Rattle.trop_row.proofs.Sizes.{rows_size-read}
use Rattle.trop_row.proofs.StepMoves.{chosen_read, skipped_read}
use Rattle.trop_guard.proofs.parts.kept_rows.Goals as goal
use Rattle.trop_guard.proofs.parts.kept_rows.Goals.{then-holds+in_ok-copy+in_ok-push, else-holds}

pub loop-row-preserved : goal.loop-row-preserved
loop-row-preserved g c =
    let P = IsTrueAt g.S.Scalar.ring c.args.ineq.now in
    elim c.if-holds.branch [
      | then-holds+in_ok-copy+in_ok-push w ↦
          rw (w.out-is, w.in_ok-push.ensures.items)
          (chosen_read P c.args.rows.now c.loop-row.out.items c.loop-row.row-index c.row-item.result _
          c.loop-row.invariant (omega arith) c.row-item.is w.in_ok-copy.ensures.same
          (c.holds.ensures.0 w.if-holds.true))
      | else-holds w ↦
          rw w.out-is
          (skipped_read P c.args.rows.now c.loop-row.out.items c.loop-row.row-index c.row-item.result
          c.loop-row.invariant (omega arith) c.row-item.is
          (λ t. true≢false (sym (c.holds.ensures.1 t) ∙ w.if-holds.false)))
    ]

pub holds-requires-clause-sizes : goal.holds-requires-clause-sizes
holds-requires-clause-sizes g c =
    let R = g.S.Scalar.ring in
    omega (
      arith,
      rows_size-read R c.args.rows.now c.loop-row.row-index c.row-item.result c.row-item.is (omega arith),
    )
