use Rattle.std.proofs.Common.{◌^◌, arith}
use Rattle.std.proofs.lemmas.Int.{ints}
use Rattle.zone_tables.proofs.Sizes.{read-within, sum-within}
use Rattle.zone_tables.proofs.changes.added_bound.Goals as goal

pub sum-before-requires-clause-left : goal.sum-before-requires-clause-left
sum-before-requires-clause-left c = read-within (2 ^ 40) (2 ^ 120) c.args.side c.args.bounds.now c.args.i c.args.high
    c.bound_at.result c.bound_at.ensures c.requires.within c.requires.row c.requires.high (omega arith)

pub sum-way-requires-clause-left : goal.sum-way-requires-clause-left
sum-way-requires-clause-left c = sum-within (2 ^ 40) (2 ^ 120) c.bound_at.result _ c.sum-before.result
    c.sum-before.ensures (read-within (2 ^ 40) (2 ^ 40) c.args.side c.args.bounds.now c.args.i c.args.high
    c.bound_at.result c.bound_at.ensures c.requires.within c.requires.row c.requires.high (omega arith))
    (record {
      low = omega (arith, ints, c.requires.number.low, c.requires.number.high);
      high = omega
          (arith, ints, c.requires.number.low, c.requires.number.high);
    }) (omega arith)

pub sum-way-requires-clause-right : goal.sum-way-requires-clause-right
sum-way-requires-clause-right c = read-within (2 ^ 40) (2 ^ 120) c.args.side c.args.bounds.now c.args.low c.args.j
    c.bound_at-2.result c.bound_at-2.ensures c.requires.within c.requires.low c.requires.column (omega arith)
