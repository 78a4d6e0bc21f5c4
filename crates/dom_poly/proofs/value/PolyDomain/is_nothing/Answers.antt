use Rattle.std.proofs.Common.{length, sym, ap, ◌∙◌}
use Rattle.cone_domain.specs.Values.{Value}
use Rattle.dom_poly.specs.Views.{list_of}
use Rattle.dom_poly.proofs.Sound.{listed_is_not_nothing, nothing_by_rows}
use Rattle.dom_poly.proofs.value.PolyDomain.is_nothing.Goals as goal

pub returns-in-Some : goal.returns-in-Some
returns-in-Some g c = listed_is_not_nothing c.args.self.now c.in-Some.field-0.inequalities
    (sym (ap (λ (v : Value _). v.kept) c.self.view_is) ∙ ap list_of c.in-Some.is)

pub returns-in-None : goal.returns-in-None
returns-in-None g c =
    nothing_by_rows c.args.self.now c.len.result
    (sym (ap (λ (v : Value _). v.kept) c.self.view_is) ∙ ap list_of c.in-None.is)
    (c.len.ensures.len ∙ ap length (c.rows.ensures.rows ∙ ap (λ (v : Value _). v.rows) c.self.view_is))
