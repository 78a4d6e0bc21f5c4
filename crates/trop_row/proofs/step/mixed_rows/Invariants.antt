use Rattle.std.proofs.Common.{take}
use Rattle.std.specs.List.{AllZip}
use Rattle.trop_theory.specs.Normal.{Normalises}
use Rattle.trop_theory.specs.Steps.{mixed}
use Rattle.trop_row.proofs.step.mixed_rows.Given as goal

abbrev pub invariant-loop-row : goal.invariant-loop-row
invariant-loop-row g l =
    let R = g.S.Scalar.ring in
    AllZip (λ w x. Normalises R (mixed R l.ineq.left l.ineq.right l.kept w) x) (take l.row-index l.dropped) l.out.items
