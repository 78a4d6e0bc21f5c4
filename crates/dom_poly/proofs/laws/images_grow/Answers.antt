use Rattle.std.proofs.Common.{refl}
use Rattle.cone_domain.proofs.Inclusion.{polyhedra_inclusion}
use Rattle.dom_poly.proofs.laws.images_grow.Goals as goal

pub returns : goal.returns
returns g c op v w a b vars inside h k =
    (polyhedra_inclusion g.met.S.Scalar.ring_laws g.met.S.Numeric.numeric_laws w.vars).growth.grows op v w a b
    (h.value, vars) (k.value, refl) inside h k
