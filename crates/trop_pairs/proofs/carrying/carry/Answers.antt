use Rattle.std.proofs.Common.{◌≡◌, refl}
use Rattle.trop_pruning.specs.Kept.{HasEdgeAdded}
use Rattle.trop_pairs.proofs.KeptRow.{if_ok}
use Rattle.trop_pairs.proofs.NewRow.{same_slots, carried_new}
use Rattle.trop_pairs.proofs.carrying.carry.Goals as goal

pub merge_all-requires-clause-lengths : goal.merge_all-requires-clause-lengths
merge_all-requires-clause-lengths g c = same_slots g.S.Scalar.ring c.args.system.now.n c.args.system.now.inequalities
    c.args.first.now c.args.second.now _ _ c.requires.first c.requires.second c.slots.ensures c.slots-2.ensures

pub returns-clause-side : goal.returns-clause-side
returns-clause-side g c = carried_new g.met.S.Scalar.ring_laws c.args.system.now.n c.args.system.now.inequalities
    c.args.ineq.now c.args.first.now c.args.second.now
    (record {
      row = c.args.row;
      words = record {
        support = c.nodes_of-support.result;
        types = c.args.types;
        cover =
            c.args.cover;
      };
      slots = c.in_ok-all.all.slots.items;
      places = c.in_ok-all.all.places.items;
    }) c.args.row c.args.left
    c.args.right c.args.slot c.args.types c.args.cover c.empty.result c.slots.result.now c.slots-2.result.now
    c.with_edge.result refl refl c.slots.ensures c.slots-2.ensures c.requires.inside c.requires.first c.requires.second
    c.requires.left_finite c.requires.right_finite c.requires.mix c.requires.solves c.requires.types c.requires.cover
    c.nodes_of-support.ensures c.requires.slot c.requires.edge c.in_ok-all.ensures.merged c.with_edge.ensures

pub returns-clause-row : goal.returns-clause-row
returns-clause-row g c = if_ok (HasEdgeAdded (record {
  row = c.args.row;
  words = record {
    support = c.nodes_of-support.result;
    types = c.args.types;
    cover =
        c.args.cover;
  };
  slots = c.in_ok-all.all.slots.items;
  places = c.in_ok-all.all.places.items;
}) c.args.slot
    c.args.types c.empty.result) (λ side. side.row ≡ c.args.row) c.with_edge.result
    (λ side a. a.row) c.with_edge.ensures
