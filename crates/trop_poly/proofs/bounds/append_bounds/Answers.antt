use Rattle.std.proofs.Common.{arith, length, [], ◌∷◌, ◌++◌, ap, ◌∙◌, sym, true≢false}
use Rattle.std.proofs.lemmas.List.{length_push}
use Rattle.trop_row.proofs.Sizes.{rows_size-read}
use Rattle.trop_poly.proofs.Appended.{appended_more, appended_skip}
use Rattle.trop_poly.proofs.bounds.append_bounds.Goals as goal
use Rattle.trop_poly.proofs.bounds.append_bounds.Goals.{then-not-is_zero+in_ok-inequality_of+in_ok-push, else-not-is_zero}

pub inequality_of-requires-clause-size : goal.inequality_of-requires-clause-size
inequality_of-requires-clause-size g c =
    let R = g.S.Scalar.ring in
    omega (
      arith,
      rows_size-read R c.args.polar.now c.loop-row.row-index c.row-item.result c.row-item.is (omega arith),
    )

pub loop-row-preserved : goal.loop-row-preserved
loop-row-preserved g c = elim c.if-not-is_zero.branch [
  | then-not-is_zero+in_ok-inequality_of+in_ok-push w ↦
      record {
        width = ap (λ s. s.n) w.system-is ∙ w.in_ok-push.ensures.width ∙ c.loop-row.invariant.width;
        room = omega (
          arith,
          ap length (ap (λ s. s.inequalities) w.system-is ∙ w.in_ok-push.ensures.ok),
          length_push c.loop-row.system.inequalities w.in_ok-inequality_of.field-0,
        );
        bounded = appended_more g.S.Scalar.ring c.args.i c.args.polar.now c.args.system.now.inequalities
            c.loop-row.row-index c.row-item.result c.loop-row.system.inequalities c.if-not-is_zero.system.inequalities
            (omega arith) c.row-item.is
            (λ z. true≢false (sym (c.is_zero.ensures.1 (c.get.ensures ∙ z)) ∙ w.if-not-is_zero.true))
            c.loop-row.invariant.bounded
            (ap (λ s. s.inequalities) w.system-is ∙ w.in_ok-push.ensures.ok
            ∙ ap (λ p. c.loop-row.system.inequalities ++ p ∷ []) w.in_ok-inequality_of.ensures);
      }
  | else-not-is_zero w ↦
      record {
        width = ap (λ s. s.n) w.system-is ∙ c.loop-row.invariant.width;
        room = omega (arith, ap (λ s. length s.inequalities) w.system-is);
        bounded = appended_skip g.S.Scalar.ring c.args.i c.args.polar.now c.args.system.now.inequalities
            c.loop-row.row-index c.row-item.result c.loop-row.system.inequalities c.if-not-is_zero.system.inequalities
            (omega arith) c.row-item.is
            (sym c.get.ensures ∙ c.is_zero.ensures.0 w.if-not-is_zero.false) c.loop-row.invariant.bounded
            (ap (λ s. s.inequalities) w.system-is);
      }
]
