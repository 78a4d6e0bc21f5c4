use Rattle.trop_duality.proofs.Exists.{external_exists}
use Rattle.trop_polar.proofs.laws.external_list_exists.Goals as goal

pub returns : goal.returns
returns g c = λ n rows wide. external_exists g.met.S.Scalar.ring_laws n rows wide
