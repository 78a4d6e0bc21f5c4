use Rattle.mixed_claims.proofs.Sides.{and_then, and_else}
use Rattle.mixed_claims.proofs.claims.greatest_by_greatest.Goals as goal

pub returns-then-are_read_as : goal.returns-then-are_read_as
returns-then-are_read_as g c = and_then c.are_read_as.result c.sums_below.result c.are_read_as.ensures
    c.sums_below.ensures
    c.if-are_read_as.true

pub returns-else-are_read_as : goal.returns-else-are_read_as
returns-else-are_read_as g c = and_else c.are_read_as.result c.are_read_as.ensures c.if-are_read_as.false
