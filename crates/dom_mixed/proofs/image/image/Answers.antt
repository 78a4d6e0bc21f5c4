use Rattle.std.proofs.Common.{sym, ap, subst, arith}
use Rattle.trop_theory.specs.MaxPlus.{max_numbering}
use Rattle.trop_theory.proofs.MaxPlusLaws.{max_laws}
use Rattle.prog_theory.specs.Fits.{FitsOp}
use Rattle.prog_graph.specs.Views.{op_of}
use Rattle.mixed_theory.specs.Halves.{second_half}
use Rattle.mixed_theory.proofs.Halves.{first_fits}
use Rattle.dom_mixed.proofs.Halves.{answered}
use Rattle.dom_mixed.proofs.image.image.Goals as goal

pub apply-requires-clause-fits : goal.apply-requires-clause-fits
apply-requires-clause-fits c = first_fits c.args.vars c.args.twin.now.vars
    (omega (arith, c.requires.variables, c.requires.doubled.twice)) (op_of c.args.op.now) c.requires.fits

pub second_image-requires-clause-few : goal.second_image-requires-clause-few
second_image-requires-clause-few c = omega (arith, c.requires.variables, c.requires.doubled.few)

pub second_image-requires-clause-wide : goal.second_image-requires-clause-wide
second_image-requires-clause-wide c =
    omega (arith, c.in-Ok.ensures.1.gives.vars_are, c.requires.variables, c.requires.doubled.twice)

pub returns-in-Ok : goal.returns-in-Ok
returns-in-Ok c =
    let op = op_of c.args.op.now in
    answered max_laws max_numbering op c.args.twin.now
    (subst (λ d. FitsOp d op) c.requires.variables c.requires.fits) c.in-Ok.between c.in-Ok.ensures
    (second_half c.args.vars op) (ap (λ d. second_half d op) (sym c.requires.variables)) c.second_image.result
    c.second_image.ensures
