use Rattle.std.proofs.Common.{◌≡◌, take}
use Rattle.prog_check.proofs.moved.copied.Given as goal

abbrev pub invariant-loop-row : goal.invariant-loop-row
invariant-loop-row g l = l.out.items ≡ take l.row-index l.rows
