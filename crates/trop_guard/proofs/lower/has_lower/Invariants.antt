use Rattle.std.proofs.Common.{◌<◌, ℕ, List, get_or}
use Rattle.trop_theory.specs.Residual.{Meets}
use Rattle.trop_guard.specs.Fresh.{HasLowerWith}
use Rattle.trop_guard.proofs.lower.has_lower.Given as goal

abbrev pub invariant-loop-w : goal.invariant-loop-w
invariant-loop-w g l =
    let R = g.S.Scalar.ring in
    (k : ℕ) (d : List _) → k < l.w-index → Meets R l.x l.t (get_or l.w-items k d)
    × HasLowerWith R l.ineq l.parts.kept.rows l.x l.t (get_or l.w-items k d) → ⊥
