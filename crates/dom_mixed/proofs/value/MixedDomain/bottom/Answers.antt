use Rattle.std.proofs.Common.{◌*◌, refl, sym, subst}
use Rattle.dom_core.specs.Answers.{IsMade}
use Rattle.cone_domain.specs.Polyhedra.{nothing}
use Rattle.dom_mixed.proofs.Doubled.{doubled_by, made_doubled}
use Rattle.dom_mixed.proofs.value.MixedDomain.bottom.Goals as goal

pub doubled-requires : goal.doubled-requires
doubled-requires c = made_doubled (nothing (2 * c.args.vars)) c.bottom.result
    (doubled_by c.args.vars (nothing (2 * c.args.vars)) refl c.requires) c.bottom.ensures

pub returns : goal.returns
returns c = subst (IsMade (nothing (2 * c.args.vars))) (sym c.doubled.ensures) c.bottom.ensures
