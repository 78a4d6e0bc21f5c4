use Rattle.std.proofs.Common.{subst, sym}
use Rattle.trop_criterion.specs.Hypergraphs.{Has, IsSubset}
use Rattle.trop_pairs.proofs.KeptTyping.{denied, stay, own_slot, own_node, grown}
use Rattle.trop_pairs.proofs.keeping.types_with.Goals as goal
use Rattle.trop_pairs.proofs.keeping.types_with.Goals.{then-not-contains-via-then-not-contains, then-not-contains-via-else-not-contains+then-contains}

pub returns-then-not-contains-clause-types : goal.returns-then-not-contains-clause-types
returns-then-not-contains-clause-types g c =
    let keeps : IsSubset c.slot.inside.tail c.types-types.result → IsSubset c.slot.inside.head c.types-types.result =
    elim c.then-not-contains.branch [
      | then-not-contains-via-then-not-contains w ↦ denied c.contains.result w.if-not-contains.true c.contains.ensures
      | then-not-contains-via-else-not-contains+then-contains w ↦
          λ h. w.contains-else-not-contains.ensures.0 w.if-contains.true
    ] in
    stay g.met.S.Scalar.ring_laws c.args.system.now.n c.args.system.now.inequalities c.args.ineq.now c.args.side.now
    c.args.slot c.requires.inside c.requires.last c.requires.side c.requires.some c.requires.holds c.requires.slot
    c.types-types.result _ c.types-types.ensures c.slot.view_is keeps

pub add_slot-requires : goal.add_slot-requires
add_slot-requires g c = record {
  within = own_slot g.met.S.Scalar.ring_laws c.args.system.now.n
      c.args.system.now.inequalities c.args.ineq.now c.args.side.now c.args.slot c.requires.inside c.requires.last
      c.requires.side c.requires.some c.requires.holds c.requires.slot c.one.result c.one-2.result c.one.ensures
      c.one-2.ensures c.fill_pair.new.room.nodes c.in_ok-fill_pair.ensures.nodes;
}

pub closure-requires : goal.closure-requires
closure-requires g c = own_node g.met.S.Scalar.ring_laws c.args.system.now.n c.args.system.now.inequalities
    c.args.ineq.now c.args.side.now c.args.slot c.requires.inside c.requires.last c.requires.side c.requires.some
    c.requires.holds c.requires.slot c.one.result c.one-2.result c.one.ensures c.one-2.ensures
    c.fill_pair.new.room.nodes c.in_ok-fill_pair.ensures.nodes c.types-types.result c.in-Some.t _ c.types-types.ensures
    c.in-Some.ensures.1 c.add_slot.ensures.nodes

pub returns-in-None-clause-types : goal.returns-in-None-clause-types
returns-in-None-clause-types g c = absurd (c.in-None.ensures c.requires.some.0
    (subst (λ w. Has w c.requires.some.0) (sym c.types-types.ensures) c.requires.some.1))

pub returns-in-Some-clause-types : goal.returns-in-Some-clause-types
returns-in-Some-clause-types g c = grown g.met.S.Scalar.ring_laws c.args.system.now.n c.args.system.now.inequalities
    c.args.ineq.now c.args.side.now c.args.slot c.requires.inside c.requires.last c.requires.side c.requires.some
    c.requires.holds c.requires.slot c.one.result c.one-2.result c.one.ensures c.one-2.ensures
    c.fill_pair.new.room.nodes c.in_ok-fill_pair.ensures.nodes c.types-types.result c.in-Some.t c.closure.result
    c.fill_pair.new.room.edges c.add_slot.new.hyper c.requires.edge c.in_ok-fill_pair.ensures.edges
    c.types-types.ensures c.in-Some.ensures.1 c.add_slot.ensures.nodes c.in_ok-add_slot.ensures.added
    c.closure.ensures.nodes c.closure.ensures.reached
