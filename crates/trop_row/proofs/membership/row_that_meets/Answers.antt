use Rattle.std.proofs.Common.{arith, ap}
use Rattle.trop_theory.specs.Vectors.{row_size}
use Rattle.trop_row.proofs.Sizes.{rows_size-read}
use Rattle.trop_row.proofs.membership.row_that_meets.Goals as goal

pub meets_at-requires-clause-row_size : goal.meets_at-requires-clause-row_size
meets_at-requires-clause-row_size g c =
    let R = g.S.Scalar.ring in
    omega (
      arith,
      ap (row_size R) c.as_slice.ensures.entries,
      rows_size-read R c.args.rows.now c.loop-i.i
          c.index-rows-i.result c.index-rows-i.is (omega arith),
    )
