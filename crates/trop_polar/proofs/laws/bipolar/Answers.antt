use Rattle.trop_duality.proofs.Bipolar.{bipolar}
use Rattle.trop_polar.proofs.laws.bipolar.Goals as goal

pub returns : goal.returns
returns g c = λ n rows system wide external x. bipolar g.met.S.Scalar.ring_laws n rows wide system external x
