use Rattle.std.proofs.Common.{◌*◌, refl, sym, subst}
use Rattle.trop_theory.specs.MaxPlus.{max_ring}
use Rattle.dom_core.specs.Answers.{IsMade}
use Rattle.cone_domain.specs.Polyhedra.{everything}
use Rattle.dom_mixed.proofs.Doubled.{doubled_by, made_doubled}
use Rattle.dom_mixed.proofs.value.MixedDomain.top.Goals as goal

pub doubled-requires : goal.doubled-requires
doubled-requires c = made_doubled (everything max_ring (2 * c.args.vars)) c.top.result
    (doubled_by c.args.vars (everything max_ring (2 * c.args.vars)) refl c.requires) c.top.ensures

pub returns : goal.returns
returns c = subst (IsMade (everything max_ring (2 * c.args.vars))) (sym c.doubled.ensures) c.top.ensures
