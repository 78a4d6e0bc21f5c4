use Rattle.std.proofs.Common.{ap, arith}
use Rattle.trop_theory.specs.Sizes.{most_scaled}
use Rattle.trop_cones.proofs.Sizes.{size_entry}
use Rattle.prog_check.proofs.NormalLists.{changed_small}
use Rattle.prog_check.proofs.moved.assigned_row.Goals as goal

pub times-requires : goal.times-requires
times-requires g c =
    let R = g.S.Scalar.ring in
    omega (
      arith,
      c.requires.size,
      ap R.size c.get.ensures,
      size_entry g.met.S.Scalar.ring_laws c.args.row.now c.args.from,
    )

pub returns-clause-size : goal.returns-clause-size
returns-clause-size g c =
    let R = g.S.Scalar.ring in
    let laws = g.met.S.Scalar.ring_laws in
    changed_small laws c.args.row.now c.in_ok-next.next _ c.args.i c.times.result most_scaled c.in_ok-next.ensures.same
    c.set.ensures (omega (arith, c.requires.size)) (omega (
      arith,
      ap R.size c.times.ensures,
      laws.size_times c.args.c c.get.result,
      ap R.size c.get.ensures,
      size_entry laws c.args.row.now c.args.from,
      c.requires.size,
    ))
