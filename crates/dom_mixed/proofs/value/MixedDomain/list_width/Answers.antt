use Rattle.std.proofs.Common.{◌≡◌, subst}
use Rattle.cone_domain.specs.Values.{Value}
use Rattle.cone_domain.specs.Polyhedra.{width_of}
use Rattle.dom_mixed.proofs.value.MixedDomain.list_width.Goals as goal

pub returns : goal.returns
returns c = subst (λ (v : Value _). c.width.result ≡ width_of v.kept) c.self.view_is c.width.ensures
