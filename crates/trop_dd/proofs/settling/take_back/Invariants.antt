use Rattle.trop_dd.proofs.Settled.{IsTakenBack}
use Rattle.trop_dd.proofs.settling.take_back.Given as goal

abbrev pub invariant-loop-k : goal.invariant-loop-k
invariant-loop-k g l = IsTakenBack l.many l.initial.sides.items l.k l.sides.items
