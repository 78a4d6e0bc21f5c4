use Rattle.std.proofs.Common.{◌<◌, ◌≢◌, ℕ, List, get_or}
use Rattle.trop_theory.specs.Vectors.{entry}
use Rattle.cone_claims.proofs.points.some_finite.Given as goal

abbrev pub invariant-loop-row : goal.invariant-loop-row
invariant-loop-row g l = (k : ℕ) (d : List _) → k < l.row-index →
    entry g.S.Scalar.ring (get_or l.rows k d) 0 ≢ g.S.Scalar.ring.zero → ⊥
