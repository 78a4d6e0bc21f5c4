use Rattle.std.proofs.Common.{arith, ap, subst}
use Rattle.trop_theory.specs.Vectors.{row_size}
use Rattle.trop_theory.specs.Residual.{Meets}
use Rattle.trop_row.proofs.Sizes.{rows_size-read}
use Rattle.trop_row.proofs.Others.{any_other}
use Rattle.trop_row.proofs.reduction.other_meets_at.Goals as goal

pub meets_at-requires-clause-row_size : goal.meets_at-requires-clause-row_size
meets_at-requires-clause-row_size g c =
    let R = g.S.Scalar.ring in
    omega (
      arith,
      ap (row_size R) c.as_slice.ensures.entries,
      rows_size-read R c.args.rows.now c.args.place
          c.index-rows-place.result c.index-rows-place.is (omega arith),
    )

pub returns : goal.returns
returns g c =
    let P = Meets g.S.Scalar.ring c.args.target.now c.args.t in
    λ e. any_other P c.args.rows.now c.args.k c.args.place c.index-rows-place.result
    (λ same. c.if-place-k.false same)
    (omega arith) c.index-rows-place.is
    (subst P c.as_slice.ensures.entries (c.meets_at.ensures.0 e))
