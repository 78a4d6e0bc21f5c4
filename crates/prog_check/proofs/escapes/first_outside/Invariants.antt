use Rattle.std.proofs.Common.{◌<◌, ℕ, List, get_or}
use Rattle.trop_theory.specs.Combinations.{IsCombination}
use Rattle.prog_check.proofs.escapes.first_outside.Given as goal

abbrev pub invariant-loop-row : goal.invariant-loop-row
invariant-loop-row g l = (k : ℕ) (d : List _) → k < l.row-index →
    IsCombination g.S.Scalar.ring l.target.n l.target.rows (get_or l.rows k d)
