use Rattle.std.proofs.Common.{get_or, refl, ap, arith}
use Rattle.std.proofs.lemmas.List.{get_or_default}
use Rattle.trop_dd.proofs.Settled.{put_more, put_failed, put_end}
use Rattle.trop_dd.proofs.settling.put_all.Goals as goal

pub returns-in-Err-clause-err : goal.returns-in-Err-clause-err
returns-in-Err-clause-err g c =
    c.take_back.ensures c.args.sides.now.items c.args.additions.now
    (put_failed g.S.Scalar.ring c.args.sides.now.items c.loop-k.sides.items _ c.args.additions.now c.loop-k.k
    c.index_mut.result.now c.put.new.self c.index_mut.ensures.value
    (omega (arith, c.loop-k-test.true, c.requires)) c.loop-k.invariant refl c.in-Err.ensures.err)

pub loop-k-preserved : goal.loop-k-preserved
loop-k-preserved g c =
    put_more g.S.Scalar.ring c.args.sides.now.items c.loop-k.sides.items _ c.args.additions.now c.loop-k.k
    c.index_mut.result.now c.put.new.self c.index_mut.ensures.value
    (omega (arith, c.loop-k-test.true, c.requires)) c.loop-k.invariant refl
    (get_or c.args.additions.now c.loop-k.k c.index-additions-k.result).slot c.in_default.ensures.ok
    (λ f. ap (λ a. a.slot) (get_or_default c.args.additions.now c.loop-k.k c.index-additions-k.result
    f c.loop-k-test.true))

pub returns-clause-ok : goal.returns-clause-ok
returns-clause-ok g c = put_end g.S.Scalar.ring c.args.sides.now.items c.loop-k.sides.items c.args.additions.now
    c.loop-k.k (omega (arith, c.loop-k-test.false)) (omega arith) c.loop-k.invariant
