use Rattle.std.proofs.Common.{refl, arith}
use Rattle.trop_dd.proofs.Settled.{taken_more, taken_all}
use Rattle.trop_dd.proofs.settling.take_back.Goals as goal

pub loop-k-preserved : goal.loop-k-preserved
loop-k-preserved g c = taken_more g.S.Scalar.ring c.args.many c.args.sides.now.items c.loop-k.sides.items _ c.loop-k.k
    c.index_mut.result.now c.take_back.new.self c.loop-k-test.true c.requires c.loop-k.invariant
    c.index_mut.ensures.value refl c.take_back.ensures

pub returns : goal.returns
returns g c = taken_all g.S.Scalar.ring c.args.many c.loop-k.k c.args.sides.now.items c.loop-k.sides.items
    (omega (arith, c.loop-k-test.false)) c.loop-k.invariant
