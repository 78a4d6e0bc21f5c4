use Rattle.trop_pairs.proofs.Adding.{has_edge}
use Rattle.trop_pairs.proofs.KeptRow.{loose_addition, some_tail, edge_addition}
use Rattle.trop_pairs.proofs.keeping.addition_of.Goals as goal

pub returns-then-is_empty-clause-addition : goal.returns-then-is_empty-clause-addition
returns-then-is_empty-clause-addition g c = loose_addition g.met.S.Scalar.ring_laws c.args.system.now.n
    c.args.system.now.inequalities c.args.ineq.now c.args.side.now c.args.slot _ c.slot.view_is c.requires.last
    c.requires.side c.requires.slot c.types.result c.empty.result (c.is_empty.ensures.none.0 c.if-is_empty.true)

pub types_with-requires-clause-edge : goal.types_with-requires-clause-edge
types_with-requires-clause-edge g c = (has_edge _ c.args.slot c.is_empty.result c.slot.view_is c.if-is_empty.false
    c.is_empty.ensures.none)

pub left_alone-alone-requires : goal.left_alone-alone-requires
left_alone-alone-requires g c = record {
  some = some_tail g.met.S.Scalar.ring_laws c.args.system.now.n
      c.args.system.now.inequalities c.args.ineq.now c.args.side.now c.args.slot _ c.slot-2.view_is c.requires.last
      c.requires.side c.requires.slot (has_edge _ c.args.slot c.is_empty.result c.slot.view_is c.if-is_empty.false
      c.is_empty.ensures.none);
}

pub returns-clause-addition : goal.returns-clause-addition
returns-clause-addition g c = edge_addition g.met.S.Scalar.ring_laws c.args.system.now.n c.args.system.now.inequalities
    c.args.ineq.now c.args.side.now c.args.slot _ c.slot-2.view_is c.requires.last c.requires.side c.requires.slot
    c.in_ok-types.types c.left_alone-alone.result c.in_ok-types.ensures.types c.left_alone-alone.ensures
