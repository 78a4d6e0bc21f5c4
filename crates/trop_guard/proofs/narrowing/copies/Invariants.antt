use Rattle.std.proofs.Common.{◌≡◌, take}
use Rattle.trop_guard.proofs.narrowing.copies.Given as goal

abbrev pub invariant-loop-row : goal.invariant-loop-row
invariant-loop-row g l = l.out.items ≡ take l.row-index l.rows
