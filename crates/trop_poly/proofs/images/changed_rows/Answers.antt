use Rattle.std.proofs.Common.{arith}
use Rattle.trop_row.proofs.Sizes.{rows_size-read}
use Rattle.trop_poly.proofs.images.changed_rows.Goals as goal

pub assigned_row-requires-clause-size : goal.assigned_row-requires-clause-size
assigned_row-requires-clause-size g c =
    let R = g.S.Scalar.ring in
    omega (
      arith,
      c.requires.size,
      rows_size-read R c.args.rows.now c.loop-row.row-index c.row-item.result c.row-item.is (omega arith),
    )
