use Rattle.trop_duality.proofs.Bipolar.{canonical_of_external}
use Rattle.trop_polar.proofs.laws.canonical_list_of_external_list.Goals as goal

pub returns : goal.returns
returns g c = λ n rows others system wide external. canonical_of_external g.met.S.Scalar.ring_laws n rows wide system
    others external
