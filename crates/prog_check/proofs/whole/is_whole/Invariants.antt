use Rattle.std.proofs.Common.{◌<◌, ℕ}
use Rattle.trop_theory.specs.Combinations.{IsCombination}
use Rattle.cone_reports.specs.EdgeLists.{unit_row}
use Rattle.prog_check.proofs.whole.is_whole.Given as goal

abbrev pub invariant-loop-i : goal.invariant-loop-i
invariant-loop-i g l = (k : ℕ) → k < l.i →
    IsCombination g.S.Scalar.ring l.n l.rows.rows (unit_row g.S.Scalar.ring l.n k)
