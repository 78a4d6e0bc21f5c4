use Rattle.std.proofs.Common.{◌<◌, ℕ}
use Rattle.trop_theory.specs.Semiring.{Le}
use Rattle.trop_theory.specs.Vectors.{entry}
use Rattle.trop_row.proofs.entries.lies_below.Given as goal

abbrev pub invariant-loop-i : goal.invariant-loop-i
invariant-loop-i g l = let R = g.S.Scalar.ring in (k : ℕ) → k < l.i →
    Le R (R.times l.c (entry R l.row k)) (entry R l.above k)
