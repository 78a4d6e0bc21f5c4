use Rattle.std.proofs.Common.{map, set, take}
use Rattle.cone_reports.specs.EdgeLists.{AreNormalised}
use Rattle.prog_check.proofs.moved.cleared_rows.Given as goal

abbrev pub invariant-loop-row : goal.invariant-loop-row
invariant-loop-row g l =
    AreNormalised g.S.Scalar.ring (map (λ x. set x l.i g.S.Scalar.ring.zero) (take l.row-index l.rows)) l.out.items
