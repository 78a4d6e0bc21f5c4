use Rattle.std.proofs.Common.{inl, subst}
use Rattle.trop_criterion.specs.Hypergraphs.{Has}
use Rattle.trop_pruning.specs.PairEdges.{edge_of}
use Rattle.trop_pruning.specs.Open.{HoldsBack}
use Rattle.trop_pairs.proofs.Sparing.{back_two, spared_any}
use Rattle.trop_pairs.proofs.early.with_spared.Goals as goal
use Rattle.trop_pairs.proofs.early.with_spared.Goals.{else-is_empty-via-then-is_empty+else-survives, else-is_empty-via-else-is_empty}

pub returns-else-is_empty-clause-spared : goal.returns-else-is_empty-clause-spared
returns-else-is_empty-clause-spared g c u out = elim c.else-is_empty.branch [
  | else-is_empty-via-then-is_empty+else-survives w ↦ spared_any g.S.Scalar.ring c.args.left c.args.right c.args.first
      c.args.second u c.in-Some.node (subst (λ s. Has s.tail c.in-Some.node) c.first.view_is c.in-Some.ensures.1)
      (w.survives.ensures w.if-survives.false)
  | else-is_empty-via-else-is_empty w ↦ inl (subst (λ s. HoldsBack u (edge_of s)) c.first.view_is
      (back_two u c.in-Some.node c.without.result
      (record { tail = c.first.inside.tail; head = c.first.inside.head }) c.is_empty.result c.in-Some.ensures.1
      c.without.ensures c.is_empty.ensures.none w.if-is_empty.false))
]
