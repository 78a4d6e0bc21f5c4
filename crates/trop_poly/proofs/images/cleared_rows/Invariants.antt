use Rattle.std.proofs.Common.{◌≡◌, map, set, take}
use Rattle.trop_poly.proofs.images.cleared_rows.Given as goal

abbrev pub invariant-loop-row : goal.invariant-loop-row
invariant-loop-row g l = l.out.items ≡ map (λ row. set row l.i g.S.Scalar.ring.zero) (take l.row-index l.rows)
