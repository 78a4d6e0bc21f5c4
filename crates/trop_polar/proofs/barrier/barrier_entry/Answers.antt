use Rattle.std.proofs.Common.{arith, ap, ◌∙◌, ◌≢◌, sym, true≢false, ap₂}
use Rattle.trop_theory.specs.Vectors.{entry}
use Rattle.trop_cones.proofs.Sizes.{size_entry}
use Rattle.trop_polar.proofs.barrier.barrier_entry.Goals as goal

pub times-requires : goal.times-requires
times-requires g c =
    let R = g.S.Scalar.ring in
    let laws = g.met.S.Scalar.ring_laws in
    omega (
      arith,
      ap R.size c.delta.ensures,
      ap R.size c.get.ensures,
      laws.size_delta,
      size_entry laws c.args.row.now c.args.t,
    )

pub times-requires-else-is_zero : goal.times-requires-else-is_zero
times-requires-else-is_zero g c =
    let R = g.S.Scalar.ring in
    let laws = g.met.S.Scalar.ring_laws in
    let finite : entry R c.args.row.now c.args.j ≢ R.zero =
    λ z. true≢false (sym (c.is_zero.ensures.1 (c.get-here.ensures ∙ z)) ∙ c.if-is_zero.false) in
    omega (
      arith,
      ap R.size (c.times.ensures ∙ ap₂ R.times c.delta.ensures c.get.ensures),
      ap R.size (c.inverse.ensures ∙ ap R.inverse c.get-here.ensures),
      laws.size_delta,
      laws.size_times R.delta (entry R c.args.row.now c.args.t),
      laws.size_inverse (entry R c.args.row.now c.args.j) finite,
      size_entry laws c.args.row.now c.args.t,
      size_entry laws c.args.row.now c.args.j,
    )
