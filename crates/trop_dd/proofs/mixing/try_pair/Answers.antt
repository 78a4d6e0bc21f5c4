use Rattle.std.proofs.Common.{arith}
use Rattle.trop_dd.specs.Carried.{found_rows}
use Rattle.trop_dd.proofs.Mixes.{rejected_at}
use Rattle.trop_dd.proofs.Narrowings.{grows_none}
use Rattle.trop_dd.proofs.mixing.try_pair.Goals as goal

pub returns-then-rejects-clause-grows : goal.returns-then-rejects-clause-grows
returns-then-rejects-clause-grows g c = grows_none
    (found_rows c.args.sides.now c.args.found.now.fresh.items c.args.found.now.order.items) c.args.looks.now
    c.args.looks.now (omega arith)

pub returns-then-rejects-clause-given : goal.returns-then-rejects-clause-given
returns-then-rejects-clause-given g c =
    rejected_at g.met.S.Scalar.ring_laws c.args.system.now.n c.args.system.now.inequalities c.args.ineq.now
    c.args.sides.now c.requires.next (found_rows c.args.sides.now c.args.found.now.fresh.items
    c.args.found.now.order.items) c.args.kept.now c.requires.kept c.args.dropped.now c.requires.dropped c.args.words
    c.requires.words
    (c.rejects.ensures c.args.kept.now.slot.tail c.requires.closed c.if-rejects.true)
