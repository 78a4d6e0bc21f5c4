use Rattle.std.proofs.Common.{◌<◌, ℕ, List, get_or}
use Rattle.trop_theory.specs.Inequalities.{IsTrueAt}
use Rattle.mixed_claims.specs.Terms.{read_inequality}
use Rattle.mixed_claims.proofs.sums.is_below_at_each.Given as goal

abbrev pub invariant-loop-row : goal.invariant-loop-row
invariant-loop-row g l = (k : ℕ) (d : List _) → k < l.row-index →
    IsTrueAt g.S.Scalar.ring (read_inequality g.S.Scalar.ring g.S.Scalar.numbering l.reading l.vars l.left l.right)
    (get_or l.rows k d)
