use Rattle.std.proofs.Common.{arith}
use Rattle.trop_row.proofs.Sizes.{rows_size-read}
use Rattle.trop_guard.proofs.parts.sums.Goals as goal

pub dot-requires-clause-sizes : goal.dot-requires-clause-sizes
dot-requires-clause-sizes g c =
    let R = g.S.Scalar.ring in
    omega (
      arith,
      rows_size-read R c.args.rows.now c.loop-row.row-index c.row-item.result c.row-item.is (omega arith),
    )
