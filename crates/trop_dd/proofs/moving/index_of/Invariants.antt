use Rattle.trop_dd.proofs.Moves.{IsIndexTo}
use Rattle.trop_dd.proofs.moving.index_of.Given as goal

abbrev pub invariant-loop-i : goal.invariant-loop-i
invariant-loop-i l = IsIndexTo l.order l.many l.i l.at.items
