use Rattle.std.proofs.Common.{◌∷◌, [], length, ap, arith}
use Rattle.std.specs.Prelude.{None}
use Rattle.std.proofs.lemmas.List.{length-append}
use Rattle.trop_pruning.specs.PairEdges.{edge_of}
use Rattle.trop_pairs.proofs.PairJudging.{slot_in, judged, judged_edges, tails_some}
use Rattle.trop_pairs.proofs.judging.judge.Goals as goal

pub add_slot-requires : goal.add_slot-requires
add_slot-requires g c = record {
  within = slot_in g.met.S.Scalar.ring_laws _ _ c.args.ineq.now c.args.first.now
      c.args.second.now c.args.left c.args.right c.args.slot c.requires.pair _ c.in_ok-fill_pair.ensures.nodes;
}

pub returns-clause-types : goal.returns-clause-types
returns-clause-types g c = judged g.met.S.Scalar.ring_laws c.args.system.now.n c.args.system.now.inequalities
    c.args.ineq.now c.args.first.now c.args.second.now c.args.left c.args.right c.args.slot c.requires.pair
    c.fill_pair.new.room.nodes c.in_ok-fill_pair.ensures.nodes c.fill_pair.new.room.edges c.add_slot.new.hyper
    c.greatest.result c.in_ok-fill_pair.ensures.edges c.add_slot.ensures.nodes c.in_ok-add_slot.ensures.added
    c.greatest.ensures.found

pub two_open-requires : goal.two_open-requires
two_open-requires g c = tails_some g.met.S.Scalar.ring_laws c.args.system.now.n c.args.system.now.inequalities
    c.args.ineq.now c.args.first.now c.args.second.now c.args.left c.args.right c.args.slot c.requires.pair
    c.fill_pair.new.room.nodes c.in_ok-fill_pair.ensures.nodes c.fill_pair.new.room.edges c.add_slot.new.hyper.edges
    c.in_ok-fill_pair.ensures.edges c.in_ok-add_slot.ensures.added

pub returns-then-two_open-clause-types : goal.returns-then-two_open-clause-types
returns-then-two_open-clause-types g c = judged g.met.S.Scalar.ring_laws c.args.system.now.n
    c.args.system.now.inequalities c.args.ineq.now c.args.first.now c.args.second.now c.args.left c.args.right
    c.args.slot c.requires.pair c.fill_pair.new.room.nodes c.in_ok-fill_pair.ensures.nodes c.fill_pair.new.room.edges
    c.add_slot.new.hyper None c.in_ok-fill_pair.ensures.edges c.add_slot.ensures.nodes c.in_ok-add_slot.ensures.added
    (c.two_open.ensures.none c.if-two_open.true)

pub returns-then-two_open-clause-edges : goal.returns-then-two_open-clause-edges
returns-then-two_open-clause-edges g c = judged_edges g.met.S.Scalar.ring_laws c.args.system.now.n
    c.args.system.now.inequalities c.args.ineq.now c.args.first.now c.args.second.now c.args.left c.args.right
    c.args.slot c.requires.pair c.fill_pair.new.room.nodes c.in_ok-fill_pair.ensures.nodes c.fill_pair.new.room.edges
    c.add_slot.new.hyper.edges c.in_ok-fill_pair.ensures.edges c.in_ok-add_slot.ensures.added

pub returns-then-two_open-clause-tails : goal.returns-then-two_open-clause-tails
returns-then-two_open-clause-tails g c = tails_some g.met.S.Scalar.ring_laws c.args.system.now.n
    c.args.system.now.inequalities c.args.ineq.now c.args.first.now c.args.second.now c.args.left c.args.right
    c.args.slot c.requires.pair c.fill_pair.new.room.nodes c.in_ok-fill_pair.ensures.nodes c.fill_pair.new.room.edges
    c.add_slot.new.hyper.edges c.in_ok-fill_pair.ensures.edges c.in_ok-add_slot.ensures.added

pub returns-then-two_open-clause-counted : goal.returns-then-two_open-clause-counted
returns-then-two_open-clause-counted g c = omega (
  arith,
  c.fill_pair.ensures.kept,
  c.two_open.ensures.counted,
  ap length c.in_ok-add_slot.ensures.added,
  length-append c.fill_pair.new.room.edges (edge_of c.args.slot ∷ []),
)

pub returns-clause-edges : goal.returns-clause-edges
returns-clause-edges g c = judged_edges g.met.S.Scalar.ring_laws c.args.system.now.n c.args.system.now.inequalities
    c.args.ineq.now c.args.first.now c.args.second.now c.args.left c.args.right c.args.slot c.requires.pair
    c.fill_pair.new.room.nodes c.in_ok-fill_pair.ensures.nodes c.fill_pair.new.room.edges c.add_slot.new.hyper.edges
    c.in_ok-fill_pair.ensures.edges c.in_ok-add_slot.ensures.added

pub returns-clause-tails : goal.returns-clause-tails
returns-clause-tails g c = tails_some g.met.S.Scalar.ring_laws c.args.system.now.n c.args.system.now.inequalities
    c.args.ineq.now c.args.first.now c.args.second.now c.args.left c.args.right c.args.slot c.requires.pair
    c.fill_pair.new.room.nodes c.in_ok-fill_pair.ensures.nodes c.fill_pair.new.room.edges c.add_slot.new.hyper.edges
    c.in_ok-fill_pair.ensures.edges c.in_ok-add_slot.ensures.added

pub returns-clause-counted : goal.returns-clause-counted
returns-clause-counted g c = omega (
  arith,
  c.fill_pair.ensures.kept,
  c.two_open.ensures.counted,
  ap length c.in_ok-add_slot.ensures.added,
  length-append c.fill_pair.new.room.edges (edge_of c.args.slot ∷ []),
  c.greatest.ensures.kept,
)
