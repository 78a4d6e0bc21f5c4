use Rattle.std.proofs.Common.{◌≡◌, map, take}
use Rattle.trop_cones.specs.Sets.{assigned}
use Rattle.trop_poly.proofs.images.changed_rows.Given as goal

abbrev pub invariant-loop-row : goal.invariant-loop-row
invariant-loop-row g l = l.out.items ≡ map (assigned g.S.Scalar.ring l.i l.from l.c) (take l.row-index l.rows)
