use Rattle.std.proofs.Common.{◌≡◌, false, take, filter, get_or}
use Rattle.trop_dd.proofs.starting.picked.Given as goal

abbrev pub invariant-loop-i : goal.invariant-loop-i
invariant-loop-i l = l.picked.items ≡ filter (λ k. get_or l.flags k false) (take l.i l.order)
