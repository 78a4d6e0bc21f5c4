use Rattle.std.proofs.Common.{◌≡◌, ◌<◌, ℕ, length}
use Rattle.trop_theory.specs.Vectors.{entry}
use Rattle.trop_duality.specs.Barriers.{IsBarrierAt}
use Rattle.trop_polar.proofs.barrier.barrier.Given as goal

abbrev pub invariant-loop-j : goal.invariant-loop-j
invariant-loop-j g l = record {
  wide : length l.side ≡ length l.row;
  each : (k : ℕ) → k < l.j → IsBarrierAt g.S.Scalar.ring l.rows l.row l.t k (entry g.S.Scalar.ring l.side k);
}
