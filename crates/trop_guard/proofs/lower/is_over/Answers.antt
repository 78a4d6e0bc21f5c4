use Rattle.std.proofs.Common.{arith, ap}
use Rattle.trop_cones.proofs.Sizes.{size_entry}
use Rattle.trop_guard.proofs.lower.is_over.Goals as goal

pub times-requires : goal.times-requires
times-requires g c = omega (
  arith,
  ap g.S.Scalar.ring.size c.get.ensures,
  size_entry g.met.S.Scalar.ring_laws c.args.x.now c.loop-j.j,
  c.requires.top_size,
  c.requires.size,
)

pub times-requires-in-loop-j : goal.times-requires-in-loop-j
times-requires-in-loop-j g c = omega (
  arith,
  ap g.S.Scalar.ring.size c.get-in-loop-j.ensures,
  size_entry g.met.S.Scalar.ring_laws c.args.x.now c.args.t,
  c.mixed_entry-mixed.ensures.small,
  c.requires.size,
)
