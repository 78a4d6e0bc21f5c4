use Rattle.std.proofs.Common.{◌<◌, ℕ, List, get_or}
use Rattle.trop_theory.specs.Residual.{Meets}
use Rattle.trop_row.proofs.membership.row_that_meets.Given as goal

abbrev pub invariant-loop-i : goal.invariant-loop-i
invariant-loop-i g l = (k : ℕ) (d : List _) → k < l.i → Meets g.S.Scalar.ring l.target l.t (get_or l.rows k d) → ⊥
