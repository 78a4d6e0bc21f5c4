use Rattle.std.proofs.Common.{◌≢◌, ◌<◌, ℕ}
use Rattle.std.specs.Prelude.{Any}
use Rattle.trop_theory.specs.Vectors.{entry}
use Rattle.trop_theory.specs.Residual.{Meets}
use Rattle.trop_row.proofs.membership.first_unmet_of.Given as goal

abbrev pub invariant-loop-t : goal.invariant-loop-t
invariant-loop-t g l = let R = g.S.Scalar.ring in (k : ℕ) → k < l.t → entry R l.target k ≢ R.zero →
    Any (Meets R l.target k) l.rows
