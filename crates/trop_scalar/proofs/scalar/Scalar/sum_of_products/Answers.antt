use Rattle.std.proofs.Common.{arith}
use Rattle.trop_theory.proofs.Sizes.{size-entries, dot_end}
use Rattle.trop_scalar.proofs.scalar.Scalar.sum_of_products.Goals as goal

pub times-requires : goal.times-requires
times-requires g c = size-entries g.Self.Scalar.ring _ _ _ _ _ _ _ c.index-coeffs-i.is c.index-entries-i.is
    (omega arith) (omega arith) c.requires.sizes

pub returns : goal.returns
returns g c = dot_end g.met.Self.Scalar.ring_laws _ _ c.loop-i.i _ _ (omega arith) c.loop-i.invariant
