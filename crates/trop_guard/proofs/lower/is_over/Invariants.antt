use Rattle.std.proofs.Common.{◌<◌, ℕ}
use Rattle.trop_theory.specs.Semiring.{Le}
use Rattle.trop_theory.specs.Vectors.{entry, joined, scaled}
use Rattle.trop_guard.proofs.lower.is_over.Given as goal

abbrev pub invariant-loop-j : goal.invariant-loop-j
invariant-loop-j g l = let R = g.S.Scalar.ring in (k : ℕ) → k < l.j →
    Le R (R.times (entry R l.x k) l.top) (R.times (entry R (joined R (scaled R l.left l.v) (scaled R l.right l.w)) k)
    (entry R l.x l.t))
