use Rattle.std.proofs.Common.{◌<◌, ℕ, List, get_or}
use Rattle.cone_claims.specs.Points.{Shows}
use Rattle.cone_claims.proofs.points.some_shows.Given as goal

abbrev pub invariant-loop-row : goal.invariant-loop-row
invariant-loop-row g l = (k : ℕ) (d : List _) → k < l.row-index →
    Shows g.S.Scalar.ring l.ineq l.what (get_or l.rows k d) → ⊥
