use Rattle.std.proofs.Common.{arith, ap, ◌∙◌, ap₂}
use Rattle.trop_cones.proofs.Sizes.{size_terms, size_quotient}
use Rattle.trop_polar.proofs.barrier.quotient.Goals as goal

pub times-requires : goal.times-requires
times-requires g c =
    let R = g.S.Scalar.ring in
    omega (
      arith,
      ap R.size c.get.ensures,
      ap R.size (c.inverse.ensures ∙ ap R.inverse c.get-2.ensures),
      size_terms g.met.S.Scalar.ring_laws c.args.row.now c.args.row.now c.args.t c.args.j c.requires.finite,
    )

pub returns-clause-small : goal.returns-clause-small
returns-clause-small g c =
    let R = g.S.Scalar.ring in
    omega (
      arith,
      ap R.size (c.times.ensures ∙ ap₂ R.times c.get.ensures (c.inverse.ensures ∙ ap R.inverse c.get-2.ensures)),
      size_quotient g.met.S.Scalar.ring_laws c.args.row.now c.args.row.now c.args.t c.args.j c.requires.finite,
    )
