use Rattle.std.proofs.Common.{◌≡◌, take}
use Rattle.trop_dd.proofs.copying.copied_sides.Given as goal

abbrev pub invariant-loop-side : goal.invariant-loop-side
invariant-loop-side g l = l.copies.items ≡ take l.side-index l.sides
