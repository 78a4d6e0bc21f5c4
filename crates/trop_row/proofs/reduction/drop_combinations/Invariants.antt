use Rattle.trop_row.proofs.Kept.{IsThinned}
use Rattle.trop_row.proofs.reduction.drop_combinations.Given as goal

abbrev pub invariant-loop-k : goal.invariant-loop-k
invariant-loop-k g l = IsThinned g.S.Scalar.ring l.n l.initial.rows.items l.rows.items l.k

abbrev pub decreases-loop-k : goal.decreases-loop-k
decreases-loop-k g l = l.k
