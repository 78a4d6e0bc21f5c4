use Rattle.std.proofs.Common.{◌^◌, length, ap, sym, subst, arith}
use Rattle.trop_theory.specs.Vectors.{rows_size, AreWide}
use Rattle.trop_cones.specs.Sets.{assigned}
use Rattle.prog_check.proofs.Lists.{assigned_wide, assigned_small, mapped_few}
use Rattle.prog_check.proofs.moved.assigned_list.Goals as goal

pub from_rows-requires-clause-room : goal.from_rows-requires-clause-room
from_rows-requires-clause-room g c =
    omega (
      arith,
      mapped_few g.met.S.Scalar.ring_laws
          (assigned g.S.Scalar.ring c.args.var c.args.value.now.coord c.number_of.result) c.as_slice.result.now
          c.in_ok-rows.rows.items c.in_ok-rows.ensures,
      ap length c.as_slice.ensures.rows,
      c.as_slice.ensures.room,
    )

pub from_rows-requires-clause-wide : goal.from_rows-requires-clause-wide
from_rows-requires-clause-wide g c =
    let wide : AreWide c.n-n.result c.as_slice.result.now =
    subst (λ k. AreWide k c.as_slice.result.now) (sym c.n-n.ensures.value)
    (subst (AreWide c.args.gens.now.n) (sym c.as_slice.ensures.rows) c.as_slice.ensures.wide) in
    assigned_wide g.met.S.Scalar.ring_laws c.n-n.result c.args.var c.args.value.now.coord c.number_of.result
    c.as_slice.result.now c.in_ok-rows.rows.items wide c.in_ok-rows.ensures

pub returns-clause-size : goal.returns-clause-size
returns-clause-size g c =
    let R = g.S.Scalar.ring in
    omega (
      arith,
      ap (rows_size R) c.from_rows.ensures.rows,
      assigned_small g.met.S.Scalar.ring_laws c.args.var c.args.value.now.coord c.number_of.result
          c.as_slice.result.now c.in_ok-rows.rows.items (2 ^ 42)
          (omega (
            arith,
            ap (rows_size R) c.as_slice.ensures.rows,
            c.requires.size,
            c.number_of.ensures.size,
          )) c.in_ok-rows.ensures,
    )
