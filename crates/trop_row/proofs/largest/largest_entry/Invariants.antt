use Rattle.std.proofs.Common.{◌≡◌, take}
use Rattle.trop_theory.specs.Vectors.{row_size}
use Rattle.trop_row.proofs.largest.largest_entry.Given as goal

abbrev pub invariant-loop-x : goal.invariant-loop-x
invariant-loop-x g l = l.largest ≡ row_size g.S.Scalar.ring (take l.x-index l.entries)
