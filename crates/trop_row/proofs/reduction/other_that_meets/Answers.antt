use Rattle.std.proofs.Common.{arith, ◌+◌, ◌-◌, length, take, drop}
use Rattle.trop_theory.specs.Residual.{Meets}
use Rattle.trop_row.proofs.Sizes.{rows_size-take, rows_size-drop}
use Rattle.trop_row.proofs.Others.{any_behind, any_place, any_found_front}
use Rattle.trop_row.proofs.reduction.other_that_meets.Goals as goal

pub row_that_meets-requires-clause-row_sizes : goal.row_that_meets-requires-clause-row_sizes
row_that_meets-requires-clause-row_sizes g c =
    omega (
      arith,
      rows_size-drop g.S.Scalar.ring (c.args.k + 1) c.args.rows.now,
      rows_size-take g.S.Scalar.ring
          (length c.args.rows.now - (c.args.k + 1)) (drop (c.args.k + 1) c.args.rows.now),
    )

pub row_that_meets-requires-in-None-clause-row_sizes : goal.row_that_meets-requires-in-None-clause-row_sizes
row_that_meets-requires-in-None-clause-row_sizes g c =
    omega (arith, rows_size-take g.S.Scalar.ring c.args.k c.args.rows.now)

pub returns-in-Some : goal.returns-in-Some
returns-in-Some g c =
    let P = Meets g.S.Scalar.ring c.args.target.now c.args.t in
    any_behind P c.args.rows.now c.args.k
    (any_place P (take (length c.args.rows.now - (c.args.k + 1)) (drop (c.args.k + 1) c.args.rows.now)) c.in-Some.i
    c.in-Some.ensures.within c.in-Some.ensures.meets)

pub returns-in-None : goal.returns-in-None
returns-in-None g c =
    any_found_front (Meets g.S.Scalar.ring c.args.target.now c.args.t) c.args.rows.now c.args.k
    c.row_that_meets-in-None.result c.row_that_meets-in-None.ensures.within c.row_that_meets-in-None.ensures.meets
    c.in-None.ensures.meets
