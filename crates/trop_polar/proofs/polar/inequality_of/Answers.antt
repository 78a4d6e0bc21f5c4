use Rattle.std.proofs.Common.{arith, ap, ◌∙◌}
use Rattle.trop_theory.specs.Vectors.{row_size}
use Rattle.trop_cones.proofs.Sizes.{size_entry}
use Rattle.trop_polar.proofs.polar.inequality_of.Goals as goal

pub scale-requires : goal.scale-requires
scale-requires g c =
    let R = g.S.Scalar.ring in
    omega (
      arith,
      ap (row_size R) c.in_ok-scaled.ensures.same,
      ap R.size (c.inverse.ensures ∙ ap R.inverse c.get.ensures),
      g.met.S.Scalar.ring_laws.size_inverse _ c.requires.finite,
      size_entry g.met.S.Scalar.ring_laws c.args.row.now c.args.i,
    )
