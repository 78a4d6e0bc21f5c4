use Rattle.std.proofs.Common.{◌≡◌, map, take}
use Rattle.trop_theory.specs.Vectors.{dot}
use Rattle.trop_guard.proofs.parts.sums.Given as goal

abbrev pub invariant-loop-row : goal.invariant-loop-row
invariant-loop-row g l = l.out.items ≡ map (dot g.S.Scalar.ring l.side) (take l.row-index l.rows)
