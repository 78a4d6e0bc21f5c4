use Rattle.std.proofs.Common.{◌≡◌, sym, subst, refl}
use Rattle.cone_domain.specs.Values.{Value}
use Rattle.cone_domain.specs.Polyhedra.{width_of}
use Rattle.dom_poly.specs.Views.{list_of}
use Rattle.dom_poly.proofs.Sound.{width_some}
use Rattle.dom_poly.proofs.value.PolyDomain.list_width.Goals as goal

pub returns-in-Some : goal.returns-in-Some
returns-in-Some g c =
    let k = c.len.result in
    subst (λ (v : Value _). k ≡ width_of v.kept) c.self.view_is
    (width_some g.S.Scalar.ring c.self.inside.cone c.self.inside.kept c.in-Some.list c.in-Some.is c.self.invariant k
    c.len.ensures.len)

pub returns-in-None : goal.returns-in-None
returns-in-None g c =
    subst (λ (v : Value _). 4097 ≡ width_of v.kept) c.self.view_is
    (subst (λ q. 4097 ≡ width_of (list_of q)) (sym c.in-None.is) refl)
