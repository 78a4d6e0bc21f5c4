use Rattle.std.proofs.Common.{◌<◌, ℕ, get_or}
use Rattle.mixed_claims.specs.Terms.{IsPairOn}
use Rattle.mixed_claims.proofs.pairs.is_below_some.Given as goal

abbrev pub invariant-loop-term : goal.invariant-loop-term
invariant-loop-term g l = (k : ℕ) (d : _) → k < l.term-index →
    IsPairOn g.S.Scalar.ring g.S.Scalar.numbering l.vars l.rows l.left (get_or l.right k d) → ⊥
