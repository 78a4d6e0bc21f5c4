use Rattle.std.proofs.Common.{arith}
use Rattle.trop_cones.proofs.Sizes.{size_entry}
use Rattle.trop_poly.proofs.images.assigned_row.Goals as goal

pub multiple-requires-clause-size : goal.multiple-requires-clause-size
multiple-requires-clause-size g c =
    omega (arith, c.requires.size, size_entry g.met.S.Scalar.ring_laws c.args.row.now c.args.from)
