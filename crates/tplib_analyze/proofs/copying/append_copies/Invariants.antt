use Rattle.std.proofs.Common.{◌≡◌, ◌++◌, take}
use Rattle.tplib_analyze.proofs.copying.append_copies.Given as goal

abbrev pub invariant-loop-row : goal.invariant-loop-row
invariant-loop-row g l = l.out.items ≡ l.initial.out.items ++ take l.row-index l.rows
