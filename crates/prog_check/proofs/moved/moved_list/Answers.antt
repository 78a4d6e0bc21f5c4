use Rattle.std.proofs.Common.{◌-◌, subst}
use Rattle.prog_theory.specs.Fits.{FitsOp}
use Rattle.prog_graph.specs.Views.{op_of}
use Rattle.prog_check.proofs.moved.moved_list.Goals as goal

pub guarded_list-requires-clause-left_fits : goal.guarded_list-requires-clause-left_fits
guarded_list-requires-clause-left_fits g c =
    (subst (λ o. FitsOp (c.args.gens.now.n - 1) (op_of o)) c.in-Guard.is c.requires.movable.fits).0

pub guarded_list-requires-clause-right_fits : goal.guarded_list-requires-clause-right_fits
guarded_list-requires-clause-right_fits g c =
    (subst (λ o. FitsOp (c.args.gens.now.n - 1) (op_of o)) c.in-Guard.is c.requires.movable.fits).1
