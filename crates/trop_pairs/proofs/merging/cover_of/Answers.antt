use Rattle.std.proofs.Common.{arith}
use Rattle.trop_pairs.proofs.SlotListing.{cover_next, cover_end, listed_tail}
use Rattle.trop_pairs.proofs.merging.cover_of.Goals as goal

pub left_alone-requires : goal.left_alone-requires
left_alone-requires c = record {
  some = listed_tail c.args.edges.now c.loop-edge.edge-index c.edge-item.result
      _ c.requires c.loop-edge-test.true c.edge-item.is c.edge.view_is;
}

pub loop-edge-preserved : goal.loop-edge-preserved
loop-edge-preserved c = cover_next c.args.edges.now c.loop-edge.edge-index c.edge-item.result _ c.loop-edge.cover
    c.left_alone.result c.union-cover.result c.loop-edge-test.true c.edge-item.is c.edge.view_is
    c.loop-edge.invariant c.left_alone.ensures c.union-cover.ensures

pub returns-clause-cover : goal.returns-clause-cover
returns-clause-cover c = λ u out. cover_end c.args.edges.now c.loop-edge.edge-index u (omega arith)
    (c.loop-edge.invariant u out)
