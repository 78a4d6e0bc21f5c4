use Rattle.std.proofs.Common.{◌≡◌, ◌^◌, ◌<◌, subst, sym, arith}
use Rattle.std.proofs.lemmas.Int.{ints}
use Rattle.zone_tables.specs.Sizes.{IsBetween}
use Rattle.zone_tables.specs.Tables.{matrix_of}
use Rattle.zone_tables.proofs.Sizes.{source-in, shift-between, read-within}
use Rattle.zone_theory.specs.Assigning.{shift}
use Rattle.zone_tables.proofs.Entries.{shift-read, assigned-read}
use Rattle.zone_tables.proofs.changes.assigned_bound.Goals as goal

pub sum-requires-clause-left : goal.sum-requires-clause-left
sum-requires-clause-left c = read-within (2 ^ 40) (2 ^ 120) c.args.side c.args.bounds.now c.source_of.result
    c.source_of-2.result c.bound_at-bound.result c.bound_at-bound.ensures c.requires.within
    (subst (λ k. k < c.args.side) (sym c.source_of.ensures)
    (source-in c.args.side c.args.var c.args.from c.args.i c.requires.from c.requires.row))
    (subst (λ k. k < c.args.side) (sym c.source_of-2.ensures)
    (source-in c.args.side c.args.var c.args.from c.args.j c.requires.from c.requires.column)) (omega arith)

pub sum-requires-clause-right : goal.sum-requires-clause-right
sum-requires-clause-right c = let eh : c.shift_of-high.result ≡ shift c.args.var c.args.add c.args.i = shift-read
    c.args.var c.args.add _ c.args.i c.shift_of-high.result c.shift_of-high.ensures
    (omega (arith, ints, c.ranges.add.sfits)) in let el : c.shift_of-low.result ≡ shift c.args.var c.args.add c.args.j =
    shift-read c.args.var c.args.add _ c.args.j c.shift_of-low.result c.shift_of-low.ensures
    (omega (arith, ints, c.ranges.add.sfits)) in let h : IsBetween (2 ^ 40) c.shift_of-high.result = subst
    (IsBetween (2 ^ 40)) (sym eh) (shift-between (2 ^ 40) c.args.var c.args.add c.args.i c.requires.number) in let k :
    IsBetween (2 ^ 40) c.shift_of-low.result = subst (IsBetween (2 ^ 40)) (sym el)
    (shift-between (2 ^ 40) c.args.var c.args.add c.args.j c.requires.number) in record {
      low = omega (arith, ints, h.low, h.high, k.low, k.high);
      high = omega
          (arith, ints, h.low, h.high, k.low, k.high);
    }

pub returns : goal.returns
returns c = let eh : c.shift_of-high.result ≡ shift c.args.var c.args.add c.args.i = shift-read c.args.var c.args.add _
    c.args.i c.shift_of-high.result c.shift_of-high.ensures (omega (arith, ints, c.ranges.add.sfits)) in let el :
    c.shift_of-low.result ≡ shift c.args.var c.args.add c.args.j = shift-read c.args.var c.args.add _ c.args.j
    c.shift_of-low.result c.shift_of-low.ensures (omega (arith, ints, c.ranges.add.sfits)) in let h : IsBetween
    (2 ^ 40) c.shift_of-high.result = subst (IsBetween (2 ^ 40)) (sym eh)
    (shift-between (2 ^ 40) c.args.var c.args.add c.args.i c.requires.number) in let k : IsBetween
    (2 ^ 40) c.shift_of-low.result = subst (IsBetween (2 ^ 40)) (sym el)
    (shift-between (2 ^ 40) c.args.var c.args.add c.args.j c.requires.number) in assigned-read
    (matrix_of c.args.side c.args.bounds.now) c.args.var c.args.from c.args.add c.args.i c.args.j c.source_of.result
    c.source_of-2.result c.bound_at-bound.result c.shift_of-high.result c.shift_of-low.result _ c.sum.result
    c.source_of.ensures c.source_of-2.ensures c.bound_at-bound.ensures eh el c.sum.ensures
    (omega (arith, ints, h.low, h.high, k.low, k.high))
