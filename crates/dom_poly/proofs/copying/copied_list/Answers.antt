use Rattle.std.proofs.Common.{length, [], ◌∷◌, ◌++◌, take, sym, ap, ◌∙◌, arith}
use Rattle.dom_poly.proofs.Kept.{copy_wide, same_inequality, taken_more, taken_whole, taken_length}
use Rattle.dom_poly.proofs.copying.copied_list.Goals as goal

pub push-requires-clause-wide : goal.push-requires-clause-wide
push-requires-clause-wide g c =
    copy_wide c.args.list.now.n c.loop-ineq.out.n _ c.as_slice-inequalities.result.now c.loop-ineq.ineq-index
    c.ineq-item.result c.in_ok-copy.field-0 c.as_slice-inequalities.ensures.inequalities
    c.as_slice-inequalities.ensures.wide (omega arith) c.ineq-item.is c.in_ok-copy.ensures.left
    c.in_ok-copy.ensures.right c.loop-ineq.invariant.width

pub push-requires-clause-room : goal.push-requires-clause-room
push-requires-clause-room g c =
    omega (
      arith,
      ap length c.as_slice-inequalities.ensures.inequalities,
      ap length c.loop-ineq.invariant.same,
      taken_length c.as_slice-inequalities.result.now c.loop-ineq.ineq-index,
      c.as_slice-inequalities.ensures.room,
    )

pub loop-ineq-preserved : goal.loop-ineq-preserved
loop-ineq-preserved g c =
    let S = c.as_slice-inequalities.result.now in
    let k = c.loop-ineq.ineq-index in
    record {
      width = c.in_ok-push.ensures.width ∙ c.loop-ineq.invariant.width;
      same = c.in_ok-push.ensures.ok ∙ ap (λ s. s ++ c.in_ok-copy.field-0 ∷ []) c.loop-ineq.invariant.same
          ∙ ap (λ p. take k S ++ p ∷ []) (same_inequality c.in_ok-copy.field-0 c.ineq-item.result
          c.in_ok-copy.ensures.left c.in_ok-copy.ensures.right)
          ∙ sym (taken_more S k c.ineq-item.result (omega arith) c.ineq-item.is);
    }

pub returns-clause-same : goal.returns-clause-same
returns-clause-same g c =
    c.loop-ineq.invariant.same ∙ taken_whole c.as_slice-inequalities.result.now c.loop-ineq.ineq-index (omega arith)
    ∙ c.as_slice-inequalities.ensures.inequalities
