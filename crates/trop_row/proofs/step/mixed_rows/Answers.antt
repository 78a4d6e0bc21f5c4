use Rattle.std.proofs.Common.{List, arith}
use Rattle.std.proofs.lemmas.List.Elements.{all_zip_more}
use Rattle.trop_theory.specs.Normal.{Normalises}
use Rattle.trop_theory.specs.Steps.{mixed}
use Rattle.trop_row.proofs.step.mixed_rows.Goals as goal

pub loop-row-preserved : goal.loop-row-preserved
loop-row-preserved g c =
    let R = g.S.Scalar.ring in
    let Q : List g.row.S.Denot → List g.row.S.Denot → Type 0 =
    λ w x. Normalises R (mixed R c.args.ineq.now.left c.args.ineq.now.right c.args.kept.now w) x in
    rw c.in_ok-push.ensures.items
    (all_zip_more Q c.args.dropped.now c.loop-row.out.items c.loop-row.row-index c.row-item.result _ (omega arith)
    c.row-item.is c.loop-row.invariant c.in_ok-mixed_row.ensures)
