use Rattle.std.proofs.Common.{arith, ap}
use Rattle.trop_theory.specs.Vectors.{row_size}
use Rattle.trop_row.proofs.Sizes.{rows_size-taken}
use Rattle.trop_row.proofs.largest.rows_size.Goals as goal

pub loop-row-preserved : goal.loop-row-preserved
loop-row-preserved g c =
    let R = g.S.Scalar.ring in
    omega (
      arith,
      c.greater-largest.ensures,
      c.largest_entry.ensures,
      ap (row_size R) c.as_slice.ensures.entries,
      c.loop-row.invariant,
      rows_size-taken R c.args.rows.now c.loop-row.row-index c.row-item.result (omega arith) c.row-item.is,
    )
