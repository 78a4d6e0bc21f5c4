use Rattle.trop_cones.proofs.Minimal.{canonical_is_minimal}
use Rattle.trop_guard.proofs.laws.canonical_rows_are_minimal.Goals as goal

pub returns : goal.returns
returns g c = λ n rows others wide normal canonical x.
    canonical_is_minimal g.met.S.Scalar.ring_laws n rows wide others normal canonical x
