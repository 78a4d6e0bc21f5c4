use Rattle.std.proofs.Common.{ap, arith}
use Rattle.trop_dd.proofs.Mixes.{slot_size, normal_mix, solves, are_types, is_cover, slot_here, has_edge, first_fits, second_fits}
use Rattle.trop_dd.proofs.mixing.carried.Goals as goal

pub times-requires : goal.times-requires
times-requires g c = omega (
  arith,
  c.requires.multiples.normalises.size,
  slot_size g.met.S.Scalar.ring_laws c.args.system.now.n c.args.system.now.inequalities c.args.ineq.now c.args.v.now
      c.args.w.now c.requires.multiples.left c.requires.multiples.right c.args.slot c.requires.multiples.fit,
  ap (λ s. g.S.Scalar.ring.size s.sum) c.slot.view_is,
)

pub carry-requires-clause-mix : goal.carry-requires-clause-mix
carry-requires-clause-mix g c = normal_mix g.met.S.Scalar.ring_laws c.args.system.now.n c.args.system.now.inequalities
    c.args.ineq.now c.args.v.now c.args.w.now c.args.slot c.args.by c.args.first c.args.second c.requires.multiples
    c.args.row c.requires.row

pub carry-requires-clause-solves : goal.carry-requires-clause-solves
carry-requires-clause-solves g c = solves g.met.S.Scalar.ring_laws c.args.system.now.n c.args.system.now.inequalities
    c.args.ineq.now c.args.v.now c.args.w.now c.args.slot c.args.by c.args.first c.args.second c.requires.multiples
    c.args.row c.requires.row

pub carry-requires-clause-types : goal.carry-requires-clause-types
carry-requires-clause-types g c = are_types g.met.S.Scalar.ring_laws c.args.system.now.n c.args.system.now.inequalities
    c.args.ineq.now c.args.v.now c.args.w.now c.args.slot c.args.by c.args.first c.args.second c.requires.multiples
    c.args.row c.requires.row c.args.types c.args.room.now.edges c.requires.given

pub carry-requires-clause-cover : goal.carry-requires-clause-cover
carry-requires-clause-cover g c = is_cover g.met.S.Scalar.ring_laws c.args.system.now.n c.args.system.now.inequalities
    c.args.ineq.now c.args.v.now c.args.w.now c.args.slot c.args.by c.args.first c.args.second c.requires.multiples
    c.args.row c.requires.row c.args.types c.args.room.now.edges c.requires.given c.cover_of-cover.result
    c.edges.result.now c.edges.ensures c.cover_of-cover.ensures.cover

pub carry-requires-clause-slot : goal.carry-requires-clause-slot
carry-requires-clause-slot g c = slot_here g.met.S.Scalar.ring_laws c.args.system.now.n c.args.system.now.inequalities
    c.args.ineq.now c.args.v.now c.args.w.now c.args.slot c.args.by c.args.first c.args.second c.requires.multiples
    c.args.row c.requires.row _ c.times.result c.slot.view_is c.times.ensures

pub carry-requires-clause-edge : goal.carry-requires-clause-edge
carry-requires-clause-edge g c = has_edge g.met.S.Scalar.ring_laws c.args.system.now.n c.args.system.now.inequalities
    c.args.ineq.now c.args.v.now c.args.w.now c.args.slot c.args.by c.args.first c.args.second c.requires.multiples
    _ c.times.result c.slot.view_is

pub carry-requires-clause-left_size : goal.carry-requires-clause-left_size
carry-requires-clause-left_size g c = first_fits g.met.S.Scalar.ring_laws c.args.system.now.n
    c.args.system.now.inequalities c.args.ineq.now c.args.v.now c.args.w.now c.args.slot c.args.by c.args.first
    c.args.second c.requires.multiples

pub carry-requires-clause-right_size : goal.carry-requires-clause-right_size
carry-requires-clause-right_size g c = second_fits g.met.S.Scalar.ring_laws c.args.system.now.n
    c.args.system.now.inequalities c.args.ineq.now c.args.v.now c.args.w.now c.args.slot c.args.by c.args.first
    c.args.second c.requires.multiples
