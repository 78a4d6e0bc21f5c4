use Rattle.std.proofs.Common.{refl, arith, get_or}
use Rattle.trop_dd.proofs.Moves.{index_more, index_all}
use Rattle.trop_dd.proofs.moving.index_of.Goals as goal

pub loop-i-preserved : goal.loop-i-preserved
loop-i-preserved c = index_more c.args.order.now c.args.many c.requires.within c.requires.distinct c.loop-i.i
    (get_or c.args.order.now c.loop-i.i 0) c.loop-i.at.items _ (omega arith) refl c.loop-i.invariant refl

pub returns : goal.returns
returns c = index_all c.args.order.now c.args.many c.requires.within c.loop-i.i c.loop-i.at.items (omega arith)
    c.loop-i.invariant
