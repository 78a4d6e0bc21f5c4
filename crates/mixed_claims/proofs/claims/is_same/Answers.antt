use Rattle.mixed_claims.proofs.Sides.{and_then, and_else}
use Rattle.mixed_claims.proofs.claims.is_same.Goals as goal

pub returns-then-is_side_below : goal.returns-then-is_side_below
returns-then-is_side_below g c = and_then c.is_side_below.result c.is_side_below-then-is_side_below.result
    c.is_side_below.ensures c.is_side_below-then-is_side_below.ensures c.if-is_side_below.true

pub returns-else-is_side_below : goal.returns-else-is_side_below
returns-else-is_side_below g c = and_else c.is_side_below.result c.is_side_below.ensures c.if-is_side_below.false
