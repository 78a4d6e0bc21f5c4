use Rattle.std.proofs.Common.{◌<◌, ℕ}
use Rattle.trop_guard.specs.Fresh.{IsFreshAt}
use Rattle.trop_guard.proofs.fresh.is_fresh.Given as goal

abbrev pub invariant-loop-t : goal.invariant-loop-t
invariant-loop-t g l = (k : ℕ) → k < l.t → IsFreshAt g.S.Scalar.ring l.ineq l.parts.kept.rows l.parts.dropped.rows l.x k
    → ⊥
