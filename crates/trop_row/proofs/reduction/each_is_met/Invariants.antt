use Rattle.std.proofs.Common.{◌≢◌, ◌<◌, ℕ}
use Rattle.std.specs.Prelude.{Any, remove}
use Rattle.trop_theory.specs.Vectors.{entry}
use Rattle.trop_theory.specs.Residual.{Meets}
use Rattle.trop_row.proofs.reduction.each_is_met.Given as goal

abbrev pub invariant-loop-t : goal.invariant-loop-t
invariant-loop-t g l = let R = g.S.Scalar.ring in (i : ℕ) → i < l.t → entry R l.target i ≢ R.zero →
    Any (Meets R l.target i) (remove l.rows l.k)
