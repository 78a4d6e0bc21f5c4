use Rattle.std.proofs.Common.{◌^◌, arith}
use Rattle.zone_tables.proofs.Sizes.{read-within}
use Rattle.zone_tables.proofs.closing.passed_bound.Goals as goal

pub sum-way-requires-clause-left : goal.sum-way-requires-clause-left
sum-way-requires-clause-left c = read-within (2 ^ 120) (2 ^ 120) c.args.side c.args.bounds.now c.args.i c.args.k
    c.bound_at.result c.bound_at.ensures c.requires.within c.requires.row c.requires.way (omega arith)

pub sum-way-requires-clause-right : goal.sum-way-requires-clause-right
sum-way-requires-clause-right c = read-within (2 ^ 120) (2 ^ 120) c.args.side c.args.bounds.now c.args.k c.args.j
    c.bound_at-2.result c.bound_at-2.ensures c.requires.within c.requires.way c.requires.column (omega arith)
