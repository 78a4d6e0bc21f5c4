use Rattle.mixed_claims.proofs.Sides.{or_then, or_else, inl_of, same}
use Rattle.mixed_claims.proofs.claims.is_mixed_below.Goals as goal

pub returns-then-by_pairs : goal.returns-then-by_pairs
returns-then-by_pairs g c = or_then c.by_pairs.result c.by_pairs.ensures c.if-by_pairs.true inl_of

pub returns-else-by_pairs : goal.returns-else-by_pairs
returns-else-by_pairs g c = or_else c.by_pairs.result c.by_pairs-else-by_pairs.result c.by_pairs.ensures
    c.by_pairs-else-by_pairs.ensures c.if-by_pairs.false same
