use Rattle.std.proofs.Common.{take}
use Rattle.trop_row.proofs.NormalSteps.{AreNormalised}
use Rattle.trop_row.proofs.reduction.normal_rows.Given as goal

abbrev pub invariant-loop-row : goal.invariant-loop-row
invariant-loop-row g l = AreNormalised g.S.Scalar.ring l.n (take l.row-index l.rows) l.out.items
