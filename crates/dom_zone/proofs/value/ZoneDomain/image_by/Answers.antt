use Rattle.std.proofs.Common.{Some, sym, subst}
use Rattle.prog_graph.specs.Views.{op_of}
use Rattle.zone_lists.specs.Zones.{matrix_in}
use Rattle.dom_zone.specs.Values.{IsSmallTable, IsMoved}
use Rattle.dom_zone.proofs.Calls.{image-none, image-some, small-some}
use Rattle.dom_zone.proofs.value.ZoneDomain.image_by.Goals as goal

pub moved-requires-clause-sound : goal.moved-requires-clause-sound
moved-requires-clause-sound c = subst (IsSmallTable c.self.inside.vars) (sym c.as_slice.ensures)
    (small-some c.self.inside.vars c.self.inside.bounds c.self.inside.kept c.in-Some.bounds c.self.invariant
    c.in-Some.is)

pub returns-in-None : goal.returns-in-None
returns-in-None c = image-none c.self.inside.vars c.self.inside.bounds c.self.inside.kept (op_of c.args.op.now)
    c.args.self.now c.bottom.result c.in-None.is c.self.view_is c.requires.fits c.bottom.ensures

pub returns-in-Ok : goal.returns-in-Ok
returns-in-Ok c = image-some c.self.inside.vars c.self.inside.bounds c.self.inside.kept c.in-Some.bounds
    (op_of c.args.op.now) c.args.self.now c.in-Ok.made c.fitted.result c.in-Some.is c.self.view_is c.requires.fits
    (subst (λ b. IsMoved c.self.inside.vars (op_of c.args.op.now) (Some (matrix_in c.self.inside.vars b)) c.in-Ok.made)
    c.as_slice.ensures c.in-Ok.ensures) c.fitted.ensures
