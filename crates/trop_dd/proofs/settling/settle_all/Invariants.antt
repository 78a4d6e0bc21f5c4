use Rattle.trop_dd.proofs.Settled.{IsSettledTo}
use Rattle.trop_dd.proofs.settling.settle_all.Given as goal

abbrev pub invariant-loop-k : goal.invariant-loop-k
invariant-loop-k g l = IsSettledTo l.additions l.initial.sides.items l.k l.sides.items
