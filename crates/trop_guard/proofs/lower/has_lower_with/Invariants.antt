use Rattle.std.proofs.Common.{◌≢◌, ◌<◌, ℕ, List, get_or}
use Rattle.trop_theory.specs.Vectors.{dot}
use Rattle.trop_theory.specs.Steps.{mixed}
use Rattle.trop_guard.specs.Fresh.{IsLower}
use Rattle.trop_guard.proofs.lower.has_lower_with.Given as goal

abbrev pub invariant-loop-k : goal.invariant-loop-k
invariant-loop-k g l =
    let R = g.S.Scalar.ring in
    (k : ℕ) (d : List _) → k < l.k → (dot R l.ineq.right (get_or l.parts.kept.rows k d) ≢ R.zero)
    × IsLower R l.x l.t (mixed R l.ineq.left l.ineq.right (get_or l.parts.kept.rows k d) l.w) → ⊥
