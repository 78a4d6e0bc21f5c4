use Rattle.std.proofs.Common.{refl, arith}
use Rattle.prog_graph.proofs.Targets.{turn}
use Rattle.prog_graph.proofs.into.edges_into.Goals as goal

pub loop-k-preserved : goal.loop-k-preserved
loop-k-preserved c =
    turn c.loop-k.lists.items c.args.count c.args.edges.now c.loop-k.k c.loop-k.k _ _ c.index_mut.result.now
    c.push.new.self c.loop-k.invariant (omega arith)
    (c.requires.inside c.loop-k.k _ (omega arith)) c.index_mut.ensures.value c.in_ok-push.ensures.items refl
