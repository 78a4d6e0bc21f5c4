use Rattle.std.proofs.Common.{ap, sym, ◌∙◌, subst}
use Rattle.trop_theory.specs.MaxPlus.{max_ring, max_numbering}
use Rattle.trop_theory.proofs.MaxPlusLaws.{max_laws, max_numeric_laws}
use Rattle.prog_graph.specs.Views.{op_of}
use Rattle.dom_core.specs.Answers.{IsAnswer}
use Rattle.dom_theory.specs.Relations.{Apply}
use Rattle.cone_domain.specs.Values.{Value}
use Rattle.prog_theory.specs.Fits.{FitsOp}
use Rattle.mixed_theory.specs.Halves.{variables}
use Rattle.mixed_theory.specs.Mixed.{mixed}
use Rattle.dom_mixed.proofs.Doubled.{image_doubled}
use Rattle.dom_mixed.proofs.value.MixedDomain.image_by.Goals as goal

pub image-requires-clause-variables : goal.image-requires-clause-variables
image-requires-clause-variables c = c.variables.ensures ∙ sym (ap variables c.self.view_is)

pub image-requires-clause-doubled : goal.image-requires-clause-doubled
image-requires-clause-doubled c = c.self.invariant

pub image-requires-clause-fits : goal.image-requires-clause-fits
image-requires-clause-fits c = subst (λ d. FitsOp d (op_of c.args.op.now)) (sym c.variables.ensures) c.requires.fits

pub doubled-requires : goal.doubled-requires
doubled-requires c = image_doubled max_laws max_numeric_laws (op_of c.args.op.now) c.self.inside.twin c.image.result
    c.self.invariant c.image.ensures

pub returns : goal.returns
returns c =
    subst (λ (v : Value _). IsAnswer (mixed max_ring max_numbering) (Apply (op_of c.args.op.now) v) c.doubled.result)
    c.self.view_is
    (subst (IsAnswer (mixed max_ring max_numbering) (Apply (op_of c.args.op.now) c.self.inside.twin))
    (sym c.doubled.ensures) c.image.ensures)
