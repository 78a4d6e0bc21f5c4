use Rattle.trop_dd.specs.Numbers.{IsClosedTo}
use Rattle.trop_dd.proofs.moving.close_up.Given as goal

abbrev pub invariant-loop-place : goal.invariant-loop-place
invariant-loop-place g l = IsClosedTo l.initial.sides.items l.initial.order.items l.place l.sides.items l.order.items
    l.at.items

abbrev pub decreases-loop-place : goal.decreases-loop-place
decreases-loop-place g l = l.place
