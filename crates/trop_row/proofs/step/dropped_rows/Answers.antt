use Rattle.std.proofs.Common.{arith, sym, ◌∙◌, true≢false}
use Rattle.trop_theory.specs.Inequalities.{IsTrueAt}
use Rattle.trop_row.proofs.StepMoves.{chosen_read, skipped_read}
use Rattle.trop_row.proofs.step.dropped_rows.Goals as goal
use Rattle.trop_row.proofs.step.dropped_rows.Goals.{then-not-holds+in_ok-copy+in_ok-push, else-not-holds}

pub loop-row-preserved : goal.loop-row-preserved
loop-row-preserved g c =
    elim c.if-not-holds.branch [
      | then-not-holds+in_ok-copy+in_ok-push w ↦
          rw (w.out-is, w.in_ok-push.ensures.items)
          (chosen_read (λ x. IsTrueAt g.S.Scalar.ring c.args.ineq.now x → ⊥) c.args.rows.now c.loop-row.out.items
          c.loop-row.row-index c.row-item.result _ c.loop-row.invariant (omega arith) c.row-item.is
          w.in_ok-copy.ensures.same (λ t. true≢false (sym (c.holds.ensures.1 t) ∙ w.if-not-holds.true)))
      | else-not-holds w ↦
          rw w.out-is
          (skipped_read (λ x. IsTrueAt g.S.Scalar.ring c.args.ineq.now x → ⊥) c.args.rows.now c.loop-row.out.items
          c.loop-row.row-index c.row-item.result c.loop-row.invariant (omega arith) c.row-item.is
          (λ f. f (c.holds.ensures.0 w.if-not-holds.false)))
    ]
