use Rattle.std.proofs.Common.{◌<◌, ℕ, List, get_or}
use Rattle.trop_theory.specs.Inequalities.{IsTrueAt}
use Rattle.cone_claims.proofs.validity.holds_at_each.Given as goal

abbrev pub invariant-loop-row : goal.invariant-loop-row
invariant-loop-row g l = (k : ℕ) (d : List _) → k < l.row-index →
    IsTrueAt g.S.Scalar.ring l.ineq (get_or l.rows k d)
