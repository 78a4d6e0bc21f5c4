use Rattle.std.proofs.Common.{arith}
use Rattle.trop_row.proofs.Sizes.{row_size-taken}
use Rattle.trop_row.proofs.largest.largest_entry.Goals as goal

pub loop-x-preserved : goal.loop-x-preserved
loop-x-preserved g c =
    omega (
      arith,
      c.greater-largest.ensures,
      c.size.ensures.size,
      c.loop-x.invariant,
      row_size-taken g.S.Scalar.ring c.args.entries.now c.loop-x.x-index c.x-item.result (omega arith) c.x-item.is,
    )
