use Rattle.std.proofs.Common.{take}
use Rattle.trop_theory.specs.Inequalities.{IsTrueAt}
use Rattle.trop_theory.specs.StepList.{AreChosen}
use Rattle.trop_guard.proofs.parts.dropped_rows.Given as goal

abbrev pub invariant-loop-row : goal.invariant-loop-row
invariant-loop-row g l = AreChosen (λ w. IsTrueAt g.S.Scalar.ring l.ineq w → ⊥) (take l.row-index l.rows) l.out.items
