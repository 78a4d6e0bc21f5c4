use Rattle.std.proofs.Common.{take}
use Rattle.trop_duality.specs.Barriers.{IsHigh}
use Rattle.trop_polar.proofs.barrier.high_enough.Given as goal

abbrev pub invariant-loop-row : goal.invariant-loop-row
invariant-loop-row g l = IsHigh g.S.Scalar.ring (take l.row-index l.rows) l.t l.j l.high
