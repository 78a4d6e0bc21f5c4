use Rattle.std.proofs.Common.{sym, subst}
use Rattle.dom_core.specs.Answers.{IsMade}
use Rattle.dom_mixed.proofs.Doubled.{made_doubled}
use Rattle.dom_mixed.proofs.value.MixedDomain.copied.Goals as goal

pub doubled-requires : goal.doubled-requires
doubled-requires c = made_doubled c.self.inside.twin c.copy.result c.self.invariant c.copy.ensures

pub returns : goal.returns
returns c = subst (λ v. IsMade v c.doubled.result) c.self.view_is
    (subst (IsMade c.self.inside.twin) (sym c.doubled.ensures) c.copy.ensures)
