use Rattle.mixed_claims.proofs.Sides.{or_then, or_else, inl_of, same}
use Rattle.mixed_claims.proofs.claims.is_alike_below.Goals as goal

pub returns-then-greatest_by_greatest : goal.returns-then-greatest_by_greatest
returns-then-greatest_by_greatest g c = or_then c.greatest_by_greatest.result c.greatest_by_greatest.ensures
    c.if-greatest_by_greatest.true inl_of

pub returns-else-greatest_by_greatest : goal.returns-else-greatest_by_greatest
returns-else-greatest_by_greatest g c = or_else c.greatest_by_greatest.result c.least_by_least.result
    c.greatest_by_greatest.ensures
    c.least_by_least.ensures c.if-greatest_by_greatest.false same
