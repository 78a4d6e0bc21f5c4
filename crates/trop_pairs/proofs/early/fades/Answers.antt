use Rattle.std.proofs.Common.{sym, subst, ℕ}
use Rattle.std.specs.Prelude.{All}
use Rattle.trop_criterion.specs.Hypergraphs.{Has}
use Rattle.trop_pruning.specs.PairEdges.{HasEdge}
use Rattle.trop_pairs.proofs.PairJudging.{places_in}
use Rattle.trop_pairs.proofs.Fading.{tails_of, new_tail, not_closed, dropped_typed, early_type, open_type}
use Rattle.trop_pairs.proofs.early.fades.Goals as goal

pub closed_by-start-requires : goal.closed_by-start-requires
closed_by-start-requires g c = record {
  some = new_tail g.met.S.Scalar.ring_laws _ _ c.args.ineq.now c.args.first.now c.args.second.now c.args.left
      c.args.right c.args.slot _ c.requires.pair c.slot.view_is;
}

pub covered-early-requires-clause-first_within : goal.covered-early-requires-clause-first_within
covered-early-requires-clause-first_within g c =
    places_in g.met.S.Scalar.ring_laws _ _ c.args.first.now c.args.first.now _ _
    c.requires.pair.first c.requires.pair.first c.places.ensures c.slots-before.ensures

pub covered-early-requires-clause-second_within : goal.covered-early-requires-clause-second_within
covered-early-requires-clause-second_within g c =
    places_in g.met.S.Scalar.ring_laws _ _ c.args.first.now c.args.second.now _ _
    c.requires.pair.first c.requires.pair.second c.places.ensures c.slots-after.ensures

pub covered-early-requires-clause-some : goal.covered-early-requires-clause-some
covered-early-requires-clause-some g c =
    subst (All (λ s. HasEdge s → (j : ℕ) × Has s.tail j)) (sym c.slots-before.ensures)
    (tails_of g.met.S.Scalar.ring_laws _ _ c.args.first.now c.requires.pair.inside c.requires.pair.first)

pub covered-some-requires-clause-first_within : goal.covered-some-requires-clause-first_within
covered-some-requires-clause-first_within g c =
    places_in g.met.S.Scalar.ring_laws _ _ c.args.first.now c.args.first.now _ _
    c.requires.pair.first c.requires.pair.first c.places-2.ensures c.slots-before.ensures

pub covered-some-requires-clause-second_within : goal.covered-some-requires-clause-second_within
covered-some-requires-clause-second_within g c =
    places_in g.met.S.Scalar.ring_laws _ _ c.args.first.now c.args.second.now _ _
    c.requires.pair.first c.requires.pair.second c.places-2.ensures c.slots-after.ensures

pub covered-some-requires-clause-some : goal.covered-some-requires-clause-some
covered-some-requires-clause-some g c =
    subst (All (λ s. HasEdge s → (j : ℕ) × Has s.tail j)) (sym c.slots-before.ensures)
    (tails_of g.met.S.Scalar.ring_laws _ _ c.args.first.now c.requires.pair.inside c.requires.pair.first)

pub covered-all-requires-clause-first_within : goal.covered-all-requires-clause-first_within
covered-all-requires-clause-first_within g c =
    places_in g.met.S.Scalar.ring_laws _ _ c.args.second.now c.args.second.now _ _
    c.requires.pair.second c.requires.pair.second c.places-3.ensures c.slots-after.ensures

pub covered-all-requires-clause-second_within : goal.covered-all-requires-clause-second_within
covered-all-requires-clause-second_within g c =
    places_in g.met.S.Scalar.ring_laws _ _ c.args.second.now c.args.first.now _ _
    c.requires.pair.second c.requires.pair.first c.places-3.ensures c.slots-before.ensures

pub covered-all-requires-clause-some : goal.covered-all-requires-clause-some
covered-all-requires-clause-some g c = subst (All (λ s. HasEdge s → (j : ℕ) × Has s.tail j)) (sym c.slots-after.ensures)
    (tails_of g.met.S.Scalar.ring_laws _ _ c.args.second.now c.requires.pair.inside c.requires.pair.second)

pub returns-then-rules_out-clause-none : goal.returns-then-rules_out-clause-none
returns-then-rules_out-clause-none g c ruled x t typed = c.rules_out.ensures c.if-rules_out.true t
    (dropped_typed g.met.S.Scalar.ring_laws c.args.system.now.n c.args.system.now.inequalities c.args.ineq.now
    c.args.first.now c.args.second.now c.args.left c.args.right c.args.slot c.requires.pair x t typed
    c.types-types.result c.types-types.ensures)
    (early_type g.met.S.Scalar.ring_laws c.args.system.now.n c.args.system.now.inequalities c.args.ineq.now
    c.args.first.now c.args.second.now c.args.left c.args.right c.args.slot c.requires.pair x t typed
    c.slots-before.result.now c.slots-after.result.now c.places.result.now c.closed_by-start.result
    c.covered-early.result c.nodes_of-nodes.result c.slots-before.ensures c.slots-after.ensures c.places.ensures
    (λ u out. not_closed g.met.S.Scalar.ring_laws c.args.system.now.n c.args.system.now.inequalities c.args.slot _ _
    c.closed_by-start.result u c.slot.view_is c.closed_by-start.ensures out)
    c.covered-early.ensures.spared c.nodes_of-nodes.ensures c.cover.result c.union-closed.result c.minus-bare.result
    c.cover.ensures c.union-closed.ensures c.covered-early.ensures.start c.minus-bare.ensures)

pub returns-clause-none : goal.returns-clause-none
returns-clause-none g c ruled x t typed = c.rules_out-2.ensures ruled t
    (dropped_typed g.met.S.Scalar.ring_laws c.args.system.now.n c.args.system.now.inequalities c.args.ineq.now
    c.args.first.now c.args.second.now c.args.left c.args.right c.args.slot c.requires.pair x t typed
    c.types-types.result c.types-types.ensures)
    (open_type g.met.S.Scalar.ring_laws c.args.system.now.n c.args.system.now.inequalities c.args.ineq.now
    c.args.first.now c.args.second.now c.args.left c.args.right c.args.slot c.requires.pair x t typed
    c.slots-before.result.now c.slots-after.result.now c.places-2.result.now c.closed_by-start.result
    c.covered-some.result c.nodes_of-nodes.result c.slots-before.ensures c.slots-after.ensures c.places-2.ensures
    (λ u out. not_closed g.met.S.Scalar.ring_laws c.args.system.now.n c.args.system.now.inequalities c.args.slot _ _
    c.closed_by-start.result u c.slot.view_is c.closed_by-start.ensures out)
    c.covered-some.ensures.spared c.nodes_of-nodes.ensures c.places-3.result.now c.covered-all.result
    c.minus-open.result c.places-3.ensures c.covered-some.ensures.start c.covered-all.ensures.start
    c.covered-all.ensures.spared c.minus-open.ensures)
