use Rattle.mixed_claims.proofs.Sides.{or_then, or_else, from_alike, below_is_either}
use Rattle.mixed_claims.proofs.claims.is_side_below.Goals as goal

pub returns-then-is_alike_below : goal.returns-then-is_alike_below
returns-then-is_alike_below g c = or_then c.is_alike_below.result c.is_alike_below.ensures c.if-is_alike_below.true
    (from_alike g.S.Scalar.ring g.S.Scalar.numbering c.args.vars c.args.rows.now c.args.left.now c.args.right.now)

pub returns-else-is_alike_below : goal.returns-else-is_alike_below
returns-else-is_alike_below g c = or_else c.is_alike_below.result c.is_mixed_below.result c.is_alike_below.ensures
    c.is_mixed_below.ensures c.if-is_alike_below.false
    (below_is_either g.S.Scalar.ring g.S.Scalar.numbering c.args.vars c.args.rows.now c.args.left.now c.args.right.now)
