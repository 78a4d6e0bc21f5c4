use Rattle.std.proofs.Common.{◌≤◌, length, [], ◌∷◌, ◌++◌, sym, ap, ◌∙◌, subst, arith, true≢false}
use Rattle.std.specs.Prelude.{All}
use Rattle.std.proofs.lemmas.List.{length_push}
use Rattle.trop_theory.specs.Inequalities.{IsIn, IsValidOn, inequality_size, system_size}
use Rattle.trop_theory.specs.Combinations.{IsCombination}
use Rattle.trop_theory.specs.StepList.{AreChosen}
use Rattle.trop_criterion.proofs.Criterion.{All-system_size}
use Rattle.dom_poly.specs.Kept.{most_kept}
use Rattle.dom_poly.proofs.Kept.{copy_wide, chosen_more, chosen_past, same_inequality, taken_whole}
use Rattle.dom_poly.proofs.judging.valid_part.Goals as goal
use Rattle.dom_poly.proofs.judging.valid_part.Goals.{then-is_valid+in_ok-copy+in_ok-push, else-is_valid}

pub is_valid-requires-clause-inside : goal.is_valid-requires-clause-inside
is_valid-requires-clause-inside g c =
    let S = c.as_slice-inequalities.result.now in
    let each : All (IsIn c.args.rows.now.n) S = subst (All (IsIn c.args.rows.now.n))
    (sym c.as_slice-inequalities.ensures.inequalities)
    (subst (λ m. All (IsIn m) c.args.list.now.inequalities) c.requires.width c.as_slice-inequalities.ensures.wide) in
    subst (IsIn c.args.rows.now.n) (sym c.ineq-item.is) (each c.loop-ineq.ineq-index c.ineq-item.result (omega arith))

pub is_valid-requires-clause-sizes : goal.is_valid-requires-clause-sizes
is_valid-requires-clause-sizes g c =
    let R = g.S.Scalar.ring in
    let S = c.as_slice-inequalities.result.now in
    let small : system_size R S ≤ most_kept =
    omega (arith, c.requires.numbers, ap (system_size R) c.as_slice-inequalities.ensures.inequalities) in
    omega (
      arith,
      ap (inequality_size R) c.ineq-item.is,
      All-system_size R S most_kept small c.loop-ineq.ineq-index c.ineq-item.result (omega arith),
      c.requires.small,
    )

pub push-requires-clause-wide : goal.push-requires-clause-wide
push-requires-clause-wide g c =
    copy_wide c.args.list.now.n c.loop-ineq.part.n _ c.as_slice-inequalities.result.now c.loop-ineq.ineq-index
    c.ineq-item.result c.in_ok-copy.field-0 c.as_slice-inequalities.ensures.inequalities
    c.as_slice-inequalities.ensures.wide (omega arith) c.ineq-item.is c.in_ok-copy.ensures.left
    c.in_ok-copy.ensures.right c.loop-ineq.invariant.width

pub push-requires-clause-room : goal.push-requires-clause-room
push-requires-clause-room g c = omega (
  arith,
  ap length c.as_slice-inequalities.ensures.inequalities,
  c.loop-ineq.invariant.room,
  c.as_slice-inequalities.ensures.room,
)

pub loop-ineq-preserved : goal.loop-ineq-preserved
loop-ineq-preserved g c =
    let R = g.S.Scalar.ring in
    elim c.if-is_valid.branch [
      | then-is_valid+in_ok-copy+in_ok-push w ↦ record {
        width = ap (λ s. s.n) w.part-is ∙ w.in_ok-push.ensures.width ∙ c.loop-ineq.invariant.width;
        room = omega (
          arith,
          ap length (ap (λ s. s.inequalities) w.part-is ∙ w.in_ok-push.ensures.ok),
          length_push c.loop-ineq.part.inequalities w.in_ok-copy.field-0,
          c.loop-ineq.invariant.room,
        );
        chosen = chosen_more (IsValidOn R (IsCombination R c.args.rows.now.n c.args.rows.now.rows))
            c.as_slice-inequalities.result.now c.loop-ineq.ineq-index c.ineq-item.result (omega arith) c.ineq-item.is
            c.loop-ineq.part.inequalities c.loop-ineq.invariant.chosen c.if-is_valid.part.inequalities
            (c.is_valid.ensures.0 w.if-is_valid.true)
            (ap (λ s. s.inequalities) w.part-is ∙ w.in_ok-push.ensures.ok
            ∙ ap (λ p. c.loop-ineq.part.inequalities ++ p ∷ []) (same_inequality w.in_ok-copy.field-0
            c.ineq-item.result w.in_ok-copy.ensures.left w.in_ok-copy.ensures.right));
      }
      | else-is_valid w ↦ record {
        width = ap (λ s. s.n) w.part-is ∙ c.loop-ineq.invariant.width;
        room = omega (arith, ap (λ s. length s.inequalities) w.part-is, c.loop-ineq.invariant.room);
        chosen = chosen_past (IsValidOn R (IsCombination R c.args.rows.now.n c.args.rows.now.rows))
            c.as_slice-inequalities.result.now c.loop-ineq.ineq-index c.ineq-item.result (omega arith) c.ineq-item.is
            c.loop-ineq.part.inequalities c.loop-ineq.invariant.chosen c.if-is_valid.part.inequalities
            (λ v. true≢false (sym (c.is_valid.ensures.1 v) ∙ w.if-is_valid.false)) (ap (λ s. s.inequalities) w.part-is);
      }
    ]

pub returns-clause-chosen : goal.returns-clause-chosen
returns-clause-chosen g c =
    let R = g.S.Scalar.ring in
    let whole = taken_whole c.as_slice-inequalities.result.now c.loop-ineq.ineq-index (omega arith)
    ∙ c.as_slice-inequalities.ensures.inequalities in
    subst (λ s. AreChosen (IsValidOn R (IsCombination R c.args.rows.now.n c.args.rows.now.rows)) s
    c.loop-ineq.part.inequalities) whole c.loop-ineq.invariant.chosen
