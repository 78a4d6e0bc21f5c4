use Rattle.std.proofs.Common.{◌≡◌, ◌*◌, ap, sym, ◌∙◌, subst, subst₂}
use Rattle.trop_theory.specs.MaxPlus.{max_ring, max_numbering}
use Rattle.dom_theory.specs.Relations.{Widen}
use Rattle.dom_core.specs.Answers.{IsAnswer}
use Rattle.cone_domain.specs.Values.{Value}
use Rattle.cone_domain.specs.Operations.{IsIncluded}
use Rattle.cone_domain.specs.Polyhedra.{nothing}
use Rattle.mixed_theory.specs.Halves.{variables}
use Rattle.mixed_theory.specs.Mixed.{mixed}
use Rattle.dom_mixed.proofs.Doubled.{same_coordinates, not_nothing, widened_doubled, widened_answer}
use Rattle.dom_mixed.proofs.value.MixedDomain.widened_by.Goals as goal

pub widen-requires-clause-vars : goal.widen-requires-clause-vars
widen-requires-clause-vars c = same_coordinates c.self.inside.twin c.next.inside.twin c.self.invariant
    c.next.invariant (ap variables c.self.view_is ∙ c.requires.vars ∙ sym (ap variables c.next.view_is))

pub widen-requires-clause-leaves : goal.widen-requires-clause-leaves
widen-requires-clause-leaves c = subst₂ (λ v w. IsIncluded max_ring w v → ⊥) (sym c.self.view_is)
    (sym c.next.view_is) c.requires.leaves

pub widen-requires-clause-more : goal.widen-requires-clause-more
widen-requires-clause-more c = not_nothing c.self.inside.twin c.self.invariant
    (subst (λ (v : Value _). v ≡ nothing (2 * variables v) → ⊥) (sym c.self.view_is) c.requires.more)

pub doubled-requires : goal.doubled-requires
doubled-requires c = widened_doubled max_ring max_numbering c.self.inside.twin c.next.inside.twin c.widen.result
    c.self.invariant c.widen.ensures

pub returns : goal.returns
returns c =
    subst₂ (λ v w. IsAnswer (mixed max_ring max_numbering) (Widen v w) c.doubled.result) c.self.view_is c.next.view_is
    (subst (IsAnswer (mixed max_ring max_numbering) (Widen c.self.inside.twin c.next.inside.twin))
    (sym c.doubled.ensures)
    (widened_answer max_ring max_numbering c.self.inside.twin c.next.inside.twin c.widen.result c.widen.ensures))
