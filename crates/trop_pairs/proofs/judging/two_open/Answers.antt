use Rattle.trop_pairs.proofs.PairJudging.{two_left}
use Rattle.trop_pairs.proofs.judging.two_open.Goals as goal

pub returns-in-Some-clause-none : goal.returns-in-Some-clause-none
returns-in-Some-clause-none c = two_left c.args.room.now c.edges.result.now c.nodes.result c.cover_of.result
    c.minus-open.result c.without.result c.in-Some.u c.is_empty.result c.nodes.ensures c.edges.ensures
    c.cover_of.ensures.cover c.minus-open.ensures c.in-Some.ensures.1 c.without.ensures
    c.is_empty.ensures.none
