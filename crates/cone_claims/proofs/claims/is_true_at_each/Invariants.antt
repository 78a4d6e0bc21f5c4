use Rattle.std.proofs.Common.{◌<◌, ℕ, List, get_or}
use Rattle.std.specs.Prelude.{All}
use Rattle.trop_theory.specs.Inequalities.{IsTrueAt}
use Rattle.prog_tree.specs.Claims.{claim_of}
use Rattle.cone_reports.specs.Readings.{claim_inequalities}
use Rattle.cone_claims.proofs.claims.is_true_at_each.Given as goal

abbrev pub invariant-loop-row : goal.invariant-loop-row
invariant-loop-row g l = (k : ℕ) (d : List _) → k < l.row-index →
    All (λ p. IsTrueAt g.S.Scalar.ring p (get_or l.rows k d))
    (claim_inequalities g.S.Scalar.ring g.S.Scalar.numbering g.S.Scalar.REVERSED l.n (claim_of l.claim))
