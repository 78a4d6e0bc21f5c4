use Rattle.std.proofs.Common.{ap, sym, ◌∙◌, subst₂}
use Rattle.std.specs.Prelude.{◌↔◌, IsTrue}
use Rattle.trop_theory.specs.MaxPlus.{max_ring}
use Rattle.cone_domain.specs.Operations.{IsIncluded}
use Rattle.mixed_theory.specs.Halves.{variables}
use Rattle.dom_mixed.proofs.Doubled.{same_coordinates}
use Rattle.dom_mixed.proofs.value.MixedDomain.lies_in.Goals as goal

pub included-requires : goal.included-requires
included-requires c = same_coordinates c.self.inside.twin c.other.inside.twin c.self.invariant c.other.invariant
    (ap variables c.self.view_is ∙ c.requires ∙ sym (ap variables c.other.view_is))

pub returns : goal.returns
returns c = subst₂ (λ v w. IsTrue c.included.result ↔ IsIncluded max_ring v w) c.self.view_is c.other.view_is
    c.included.ensures
