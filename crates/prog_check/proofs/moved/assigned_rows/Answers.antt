use Rattle.std.proofs.Common.{arith}
use Rattle.trop_cones.specs.Sets.{assigned}
use Rattle.cone_claims.proofs.Loops.{read_small}
use Rattle.prog_check.proofs.NormalLists.{normalised_more, normalised_whole}
use Rattle.prog_check.proofs.moved.assigned_rows.Goals as goal

pub assigned_row-requires-clause-size : goal.assigned_row-requires-clause-size
assigned_row-requires-clause-size g c =
    read_small g.S.Scalar.ring c.args.rows.now c.loop-row.row-index c.row-item.result _ _ c.row-item.is (omega arith)
    c.requires.size

pub loop-row-preserved : goal.loop-row-preserved
loop-row-preserved g c =
    normalised_more g.met.S.Scalar.ring_laws (assigned g.S.Scalar.ring c.args.i c.args.from c.args.c) c.args.rows.now
    c.loop-row.out.items c.push_normal.new.rows.items c.loop-row.row-index c.row-item.result
    c.in_ok-assigned_row.field-0
    c.row-item.is (omega arith) c.in_ok-assigned_row.ensures.value c.loop-row.invariant c.in_ok-push_normal.ensures

pub returns : goal.returns
returns g c =
    normalised_whole g.met.S.Scalar.ring_laws (assigned g.S.Scalar.ring c.args.i c.args.from c.args.c) c.args.rows.now
    c.loop-row.out.items c.loop-row.row-index (omega arith) c.loop-row.invariant
