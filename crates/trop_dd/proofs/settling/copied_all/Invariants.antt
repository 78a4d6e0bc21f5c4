use Rattle.std.proofs.Common.{◌≡◌, take}
use Rattle.trop_dd.specs.Carried.{found_rows}
use Rattle.trop_dd.proofs.settling.copied_all.Given as goal

abbrev pub invariant-loop-number : goal.invariant-loop-number
invariant-loop-number g l = l.rows.items ≡ found_rows l.sides l.fresh (take l.number-index l.order)
