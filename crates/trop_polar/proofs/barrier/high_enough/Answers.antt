use Rattle.std.proofs.Common.{arith, ap, ◌∙◌, ◌+◌, sym, subst, true≢false, take}
use Rattle.std.proofs.lemmas.List.{take_all}
use Rattle.trop_row.proofs.Sizes.{rows_size-read}
use Rattle.trop_duality.specs.Barriers.{IsHigh}
use Rattle.trop_duality.proofs.Barriers.{high_skip, high_more}
use Rattle.trop_polar.proofs.barrier.high_enough.Goals as goal
use Rattle.trop_polar.proofs.barrier.high_enough.Goals.{then-not-is_zero, else-not-is_zero}

pub quotient-requires-clause-size : goal.quotient-requires-clause-size
quotient-requires-clause-size g c =
    let R = g.S.Scalar.ring in
    omega (arith, rows_size-read R c.args.rows.now c.loop-row.row-index c.row-item.result c.row-item.is (omega arith))

pub loop-row-preserved : goal.loop-row-preserved
loop-row-preserved g c = elim c.if-not-is_zero.branch [
  | then-not-is_zero w ↦
      let R = g.S.Scalar.ring in
      subst (IsHigh R (take (c.loop-row.row-index + 1) c.args.rows.now) c.args.t c.args.j)
      (sym (w.high-is ∙ w.plus-high.ensures ∙ ap (R.plus c.loop-row.high) w.quotient.ensures.value))
      (high_more g.met.S.Scalar.ring_laws c.args.rows.now c.loop-row.row-index c.row-item.result c.args.t c.args.j
      c.loop-row.high (omega arith) c.row-item.is
      (λ z. true≢false (sym (c.is_zero.ensures.1 (c.get.ensures ∙ z)) ∙ w.if-not-is_zero.true)) c.loop-row.invariant)
  | else-not-is_zero w ↦
      let R = g.S.Scalar.ring in
      subst (IsHigh R (take (c.loop-row.row-index + 1) c.args.rows.now) c.args.t c.args.j) (sym w.high-is)
      (high_skip g.met.S.Scalar.ring_laws c.args.rows.now c.loop-row.row-index c.row-item.result c.args.t c.args.j
      c.loop-row.high (omega arith) c.row-item.is
      (sym c.get.ensures ∙ c.is_zero.ensures.0 w.if-not-is_zero.false) c.loop-row.invariant)
]

pub returns : goal.returns
returns g c = subst (λ rows. IsHigh g.S.Scalar.ring rows c.args.t c.args.j c.loop-row.high)
    (take_all c.loop-row.row-index c.args.rows.now (omega arith)) c.loop-row.invariant
