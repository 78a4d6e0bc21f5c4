use Rattle.std.proofs.Common.{arith}
use Rattle.std.proofs.lemmas.Int.{ints}
use Rattle.zone_lists.specs.Zones.{matrix_in}
use Rattle.dom_zone.proofs.Moves.{read-in, admits-not}
use Rattle.dom_zone.proofs.image.is_admitted.Goals as goal

pub returns : goal.returns
returns c = admits-not (matrix_in c.args.vars c.args.bounds.now) c.args.high c.args.low c.args.most _
    c.bound_at-back.result c.is_at_most.result
    (read-in c.args.vars c.args.bounds.now c.args.low c.args.high c.bound_at-back.result c.bound_at-back.ensures)
    (omega (arith, ints, c.requires.number.low, c.requires.number.high)) c.is_at_most.ensures
