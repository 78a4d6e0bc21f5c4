use Rattle.std.proofs.Common.{arith, ap, ◌∙◌}
use Rattle.trop_theory.specs.Vectors.{rows_size}
use Rattle.trop_row.proofs.Sizes.{rows_size-read}
use Rattle.trop_guard.proofs.lower.has_lower.Goals as goal

pub meets_with_lower-requires-clause-w_size : goal.meets_with_lower-requires-clause-w_size
meets_with_lower-requires-clause-w_size g c =
    let R = g.S.Scalar.ring in
    omega (
      arith,
      rows_size-read R c.as_slice-w-items.result.now c.loop-w.w-index c.w-item.result c.w-item.is (omega arith),
      ap (rows_size R) c.as_slice-w-items.ensures.rows,
      c.requires.parts.dropped_small,
    )
