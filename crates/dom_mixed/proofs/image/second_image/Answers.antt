use Rattle.std.proofs.Common.{◌+◌, ◌^◌, refl, sym, subst}
use Rattle.std.specs.Prelude.{Ok}
use Rattle.trop_theory.specs.MaxPlus.{max_ring, max_numbering}
use Rattle.prog_theory.specs.Each.{EachOp}
use Rattle.prog_theory.specs.Fits.{FitsOp}
use Rattle.prog_theory.specs.Within.{IsNumberWithin}
use Rattle.prog_graph.specs.Views.{op_of}
use Rattle.mixed_theory.specs.Halves.{second_half}
use Rattle.mixed_theory.proofs.Halves.{second_fits}
use Rattle.dom_mixed.specs.Answers.{IsHalfAnswer}
use Rattle.dom_mixed.proofs.Halves.{second_numbers, half_has}
use Rattle.dom_mixed.proofs.image.second_image.Goals as goal

pub apply-requires-clause-fits : goal.apply-requires-clause-fits
apply-requires-clause-fits c =
    half_has (FitsOp c.args.between.vars) (second_half c.args.vars (op_of c.args.op.now)) (op_of c.in-Some.half)
    (sym c.in-Some.ensures)
    (second_fits c.args.vars c.args.between.vars c.requires.wide (op_of c.args.op.now) c.requires.fits)

pub apply-requires-clause-numbers : goal.apply-requires-clause-numbers
apply-requires-clause-numbers c =
    half_has (EachOp (λ x. Unit {0}) (IsNumberWithin (2 ^ 31 + 1))) (second_half c.args.vars (op_of c.args.op.now))
    (op_of c.in-Some.half) (sym c.in-Some.ensures)
    (second_numbers c.args.vars (2 ^ 31 + 1) (op_of c.args.op.now) c.requires.numbers)

pub returns-in-Some : goal.returns-in-Some
returns-in-Some c = subst (λ k. IsHalfAnswer max_ring max_numbering k c.args.between c.apply.result)
    c.in-Some.ensures c.apply.ensures

pub returns-in-None : goal.returns-in-None
returns-in-None c = subst (λ k. IsHalfAnswer max_ring max_numbering k c.args.between (Ok c.args.between))
    c.in-None.ensures refl
