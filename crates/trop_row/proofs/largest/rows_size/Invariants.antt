use Rattle.std.proofs.Common.{◌≡◌, take}
use Rattle.trop_theory.specs.Vectors.{rows_size}
use Rattle.trop_row.proofs.largest.rows_size.Given as goal

abbrev pub invariant-loop-row : goal.invariant-loop-row
invariant-loop-row g l = l.largest ≡ rows_size g.S.Scalar.ring (take l.row-index l.rows)
