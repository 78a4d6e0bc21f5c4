use Rattle.dom_theory.specs.Relations.{Join}
use Rattle.dom_core.specs.Views.{spot_of, part_of}
use Rattle.dom_iter.proofs.Comes.{Asks-ok, Asks-err}
use Rattle.dom_iter.proofs.parts.join_at.Goals as goal

pub returns-in-Ok : goal.returns-in-Ok
returns-in-Ok g c = Asks-ok g.D.Domain.relations (spot_of c.args.spot) (part_of c.args.part)
    (Join c.args.value.now c.args.other.now) c.in-Ok.joined c.in-Ok.ensures

pub returns-in-Err : goal.returns-in-Err
returns-in-Err g c = Asks-err g.D.Domain.relations (spot_of c.args.spot) (part_of c.args.part)
    (Join c.args.value.now c.args.other.now) c.in-Err.error c.placed.result c.in-Err.ensures c.placed.ensures
