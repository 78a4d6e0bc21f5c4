use Rattle.std.proofs.Common.{refl, ◌∙◌}
use Rattle.dom_poly.proofs.Sound.{copied_none, none_is_copy, copied_some, some_is_copy}
use Rattle.dom_poly.proofs.value.PolyDomain.copied.Goals as goal

pub same-result : goal.same-result
same-result g c = refl

pub invariant_of-result : goal.invariant_of-result
invariant_of-result g c = copied_some g.S.Scalar.ring c.self.inside.cone c.in_ok-cone.cone c.in_ok-cone.ensures.same
    c.self.inside.kept c.self.invariant c.in-Some.list c.in_ok-copied_list-in-Some.field-0 c.in-Some.is
    c.in_ok-copied_list-in-Some.ensures.width c.in_ok-copied_list-in-Some.ensures.same

pub invariant_of-result-in-None : goal.invariant_of-result-in-None
invariant_of-result-in-None g c = copied_none g.S.Scalar.ring c.self.inside.cone c.in_ok-cone.cone
    c.in_ok-cone.ensures.same c.self.inside.kept c.self.invariant c.in-None.is

pub returns-in_ok-copied_list-in-Some : goal.returns-in_ok-copied_list-in-Some
returns-in_ok-copied_list-in-Some g c = some_is_copy g.S.Scalar.ring c.self.inside.cone c.in_ok-cone.cone
    c.in_ok-cone.ensures.same c.self.inside.kept c.self.invariant c.in-Some.list c.in_ok-copied_list-in-Some.field-0
    c.in-Some.is c.in_ok-copied_list-in-Some.ensures.width c.in_ok-copied_list-in-Some.ensures.same ∙ c.self.view_is

pub returns-in-None : goal.returns-in-None
returns-in-None g c = none_is_copy g.S.Scalar.ring c.self.inside.cone c.in_ok-cone.cone c.in_ok-cone.ensures.same
    c.self.inside.kept c.self.invariant c.in-None.is ∙ c.self.view_is
