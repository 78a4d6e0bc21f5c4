use Rattle.std.proofs.Common.{◌≡◌, ◌+◌, ◌^◌, ap, sym, subst, Some}
use Rattle.prog_theory.specs.Edges as edges
use Rattle.prog_theory.specs.Each.{EachOp}
use Rattle.prog_theory.specs.Fits.{FitsOp}
use Rattle.prog_theory.specs.Within.{IsNumberWithin}
use Rattle.prog_graph.specs.Views.{op_of}
use Rattle.mixed_theory.specs.Halves.{second_half}
use Rattle.dom_mixed.proofs.image.second_half.Goals as goal

pub opposite_set-requires-clause-fits : goal.opposite_set-requires-clause-fits
opposite_set-requires-clause-fits c =
    (subst (λ o. FitsOp c.args.vars (op_of o)) c.in-Set.is c.requires.fits).0.1

pub opposite_set-requires-clause-value_fits : goal.opposite_set-requires-clause-value_fits
opposite_set-requires-clause-value_fits c =
    (subst (λ o. FitsOp c.args.vars (op_of o)) c.in-Set.is c.requires.fits).1

pub opposite_set-requires-clause-number : goal.opposite_set-requires-clause-number
opposite_set-requires-clause-number c =
    (subst (λ o. EachOp (λ x. Unit {0}) (IsNumberWithin (2 ^ 31 + 1)) (op_of o)) c.in-Set.is c.requires.numbers).1

pub opposite-requires-clause-fits : goal.opposite-requires-clause-fits
opposite-requires-clause-fits c =
    (subst (λ o. FitsOp c.args.vars (op_of o)) c.in-Havoc.is c.requires.fits).1

pub opposite_guard-requires-clause-left_fits : goal.opposite_guard-requires-clause-left_fits
opposite_guard-requires-clause-left_fits c =
    (subst (λ o. FitsOp c.args.vars (op_of o)) c.in-Guard.is c.requires.fits).0

pub opposite_guard-requires-clause-right_fits : goal.opposite_guard-requires-clause-right_fits
opposite_guard-requires-clause-right_fits c =
    (subst (λ o. FitsOp c.args.vars (op_of o)) c.in-Guard.is c.requires.fits).1

pub opposite_guard-requires-clause-left_number : goal.opposite_guard-requires-clause-left_number
opposite_guard-requires-clause-left_number c =
    (subst (λ o. EachOp (λ x. Unit {0}) (IsNumberWithin (2 ^ 31 + 1)) (op_of o)) c.in-Guard.is c.requires.numbers).0

pub opposite_guard-requires-clause-right_number : goal.opposite_guard-requires-clause-right_number
opposite_guard-requires-clause-right_number c =
    (subst (λ o. EachOp (λ x. Unit {0}) (IsNumberWithin (2 ^ 31 + 1)) (op_of o)) c.in-Guard.is c.requires.numbers).1

pub returns-in-Set : goal.returns-in-Set
returns-in-Set c =
    subst (λ o. Some (op_of c.opposite_set.result) ≡ second_half c.args.vars (op_of o)) (sym c.in-Set.is)
    (ap Some c.opposite_set.ensures)

pub returns-in-Havoc : goal.returns-in-Havoc
returns-in-Havoc c =
    subst (λ o. Some (edges.Havocs c.opposite.result) ≡ second_half c.args.vars (op_of o)) (sym c.in-Havoc.is)
    (ap (λ x. Some (edges.Havocs x)) c.opposite.ensures)

pub returns-in-Guard : goal.returns-in-Guard
returns-in-Guard c =
    subst (λ o. Some (op_of c.opposite_guard.result) ≡ second_half c.args.vars (op_of o)) (sym c.in-Guard.is)
    (ap Some c.opposite_guard.ensures)
