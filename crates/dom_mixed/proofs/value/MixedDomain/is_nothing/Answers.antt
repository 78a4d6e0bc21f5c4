use Rattle.std.proofs.Common.{◌≡◌, ◌*◌, subst}
use Rattle.std.specs.Prelude.{◌↔◌, IsTrue}
use Rattle.cone_domain.specs.Values.{Value}
use Rattle.cone_domain.specs.Polyhedra.{nothing}
use Rattle.mixed_theory.specs.Halves.{variables}
use Rattle.dom_mixed.proofs.Doubled.{nothing_doubled}
use Rattle.dom_mixed.proofs.value.MixedDomain.is_nothing.Goals as goal

pub returns : goal.returns
returns c =
    let b = c.is_bottom.result in
    subst (λ (v : Value _). IsTrue b ↔ (v ≡ nothing (2 * variables v))) c.self.view_is
    (nothing_doubled c.self.inside.twin b c.self.invariant c.is_bottom.ensures)
