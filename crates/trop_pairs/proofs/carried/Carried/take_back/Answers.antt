use Rattle.std.proofs.Common.{rules, ◌≡◌, ◌++◌, ◌∷◌, [], refl, sym, subst, ◌∙◌}
use Rattle.std.specs.Prelude.{IsTrue}
use Rattle.trop_pruning.specs.PairEdges.{HasEdge}
use Rattle.trop_criterion.specs.Hypergraphs.{Has}
use Rattle.trop_pairs.proofs.Adding.{has_edge}
use Rattle.trop_pairs.proofs.Putting.{taken_back, places_popped, places_without}
use Rattle.trop_pairs.proofs.carried.Carried.take_back.Goals as goal

pub returns-then-not-is_empty : goal.returns-then-not-is_empty
returns-then-not-is_empty g c old slot h =
    let es : c.args.self.now.slots ≡ c.pop.new.self.items ++ c.in-Some.slot ∷ [] = search rules in
    taken_back old c.args.self.now slot c.in-Some.slot c.pop.new.self.items c.pop-place.new.self.items h es _
    (search rules) (search rules) refl (places_popped old c.args.self.now slot c.in-Some.slot c.pop.new.self.items
    c.pop-place.new.self.items h es c.pop-place.new.self.items c.pop-place.result _ _
    (has_edge _ c.in-Some.slot c.is_empty.result c.slot.view_is c.if-not-is_empty.true c.is_empty.ensures.none)
    (search rules) (search rules) c.pop-place.ensures.cases)

pub returns-else-not-is_empty : goal.returns-else-not-is_empty
returns-else-not-is_empty g c old slot h =
    let es : c.args.self.now.slots ≡ c.pop.new.self.items ++ c.in-Some.slot ∷ [] = search rules in
    let ep : c.self.inside.places.items ≡ c.args.self.now.places = search rules in
    let et : IsTrue c.is_empty.result = search rules in
    let none : HasEdge c.in-Some.slot → ⊥ = λ has. c.is_empty.ensures.none.0 et has.0
    (subst (λ t. Has t.head has.0) (sym c.slot.view_is) has.1) in
    taken_back old c.args.self.now slot c.in-Some.slot c.pop.new.self.items c.args.self.now.places h es _ (search rules)
    (search rules) refl (ep ∙ places_without old c.args.self.now slot c.in-Some.slot c.pop.new.self.items
    c.args.self.now.places h es none)
