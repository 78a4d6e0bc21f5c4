use Rattle.std.proofs.Common.{◌<◌, ℕ, get_or}
use Rattle.std.specs.Prelude.{Any}
use Rattle.mixed_claims.specs.Terms.{IsPairOn}
use Rattle.mixed_claims.proofs.pairs.is_some_below.Given as goal

abbrev pub invariant-loop-term : goal.invariant-loop-term
invariant-loop-term g l = (k : ℕ) (d : _) → k < l.term-index →
    Any (IsPairOn g.S.Scalar.ring g.S.Scalar.numbering l.vars l.rows (get_or l.left k d)) l.right → ⊥
