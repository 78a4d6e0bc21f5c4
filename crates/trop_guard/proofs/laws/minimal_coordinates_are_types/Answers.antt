use Rattle.trop_cones.proofs.Minimal.{type_is_minimal}
use Rattle.trop_guard.proofs.laws.minimal_coordinates_are_types.Goals as goal

pub returns : goal.returns
returns g c = λ n rows wide x t member. type_is_minimal g.met.S.Scalar.ring_laws n rows wide x t member
