use Rattle.std.proofs.Common.{map, take}
use Rattle.trop_cones.specs.Sets.{assigned}
use Rattle.cone_reports.specs.EdgeLists.{AreNormalised}
use Rattle.prog_check.proofs.moved.assigned_rows.Given as goal

abbrev pub invariant-loop-row : goal.invariant-loop-row
invariant-loop-row g l =
    AreNormalised g.S.Scalar.ring (map (assigned g.S.Scalar.ring l.i l.from l.c) (take l.row-index l.rows)) l.out.items
