use Rattle.std.proofs.Common.{arith}
use Rattle.zone_tables.specs.Tables.{matrix_of}
use Rattle.zone_tables.proofs.Totals.{row-le, cell-le}
use Rattle.zone_tables.proofs.counting.count_row.Goals as goal

pub overflow_add-count : goal.overflow_add-count
overflow_add-count c = omega (
  arith,
  c.loop-j.invariant,
  row-le (matrix_of c.args.side c.args.bounds.now) c.args.i
      c.loop-j.j,
  c.weight_at-count.ensures,
  cell-le (matrix_of c.args.side c.args.bounds.now) c.args.i c.loop-j.j,
  c.requires.few,
)
