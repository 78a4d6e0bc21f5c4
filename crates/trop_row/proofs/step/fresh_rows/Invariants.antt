use Rattle.std.proofs.Common.{take}
use Rattle.trop_theory.specs.StepList.{AreMixed}
use Rattle.trop_row.proofs.step.fresh_rows.Given as goal

abbrev pub invariant-loop-row : goal.invariant-loop-row
invariant-loop-row g l = AreMixed g.S.Scalar.ring l.ineq l.dropped (take l.row-index l.kept) l.out.items
