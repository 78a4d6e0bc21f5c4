use Rattle.dom_theory.specs.Relations.{Apply}
use Rattle.prog_graph.specs.Views.{op_of}
use Rattle.dom_core.specs.Views.{spot_of, part_of}
use Rattle.dom_iter.proofs.Comes.{Asks-ok, Asks-err}
use Rattle.dom_iter.proofs.parts.image_at.Goals as goal

pub returns-in-Ok : goal.returns-in-Ok
returns-in-Ok g c = Asks-ok g.D.Domain.relations (spot_of c.args.spot) (part_of c.args.part)
    (Apply (op_of c.args.op.now) c.args.value.now) c.in-Ok.image c.in-Ok.ensures

pub returns-in-Err : goal.returns-in-Err
returns-in-Err g c = Asks-err g.D.Domain.relations (spot_of c.args.spot) (part_of c.args.part)
    (Apply (op_of c.args.op.now) c.args.value.now) c.in-Err.error c.placed.result c.in-Err.ensures c.placed.ensures
