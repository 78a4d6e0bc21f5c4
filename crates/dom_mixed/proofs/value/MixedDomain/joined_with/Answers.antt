use Rattle.std.proofs.Common.{ap, sym, ◌∙◌, subst, subst₂}
use Rattle.trop_theory.specs.MaxPlus.{max_ring, max_numbering}
use Rattle.dom_theory.specs.Relations.{Join}
use Rattle.dom_core.specs.Answers.{IsAnswer}
use Rattle.mixed_theory.specs.Halves.{variables}
use Rattle.mixed_theory.specs.Mixed.{mixed}
use Rattle.dom_mixed.proofs.Doubled.{same_coordinates, joined_doubled, joined_answer}
use Rattle.dom_mixed.proofs.value.MixedDomain.joined_with.Goals as goal

pub join-requires : goal.join-requires
join-requires c = same_coordinates c.self.inside.twin c.other.inside.twin c.self.invariant c.other.invariant
    (ap variables c.self.view_is ∙ c.requires ∙ sym (ap variables c.other.view_is))

pub doubled-requires : goal.doubled-requires
doubled-requires c = joined_doubled max_ring max_numbering c.self.inside.twin c.other.inside.twin c.join.result
    c.self.invariant c.join.ensures

pub returns : goal.returns
returns c =
    subst₂ (λ v w. IsAnswer (mixed max_ring max_numbering) (Join v w) c.doubled.result) c.self.view_is c.other.view_is
    (subst (IsAnswer (mixed max_ring max_numbering) (Join c.self.inside.twin c.other.inside.twin))
    (sym c.doubled.ensures)
    (joined_answer max_ring max_numbering c.self.inside.twin c.other.inside.twin c.join.result c.join.ensures))
