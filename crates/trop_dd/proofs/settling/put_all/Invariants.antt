use Rattle.trop_dd.specs.Settled.{ArePut}
use Rattle.trop_dd.proofs.settling.put_all.Given as goal

abbrev pub invariant-loop-k : goal.invariant-loop-k
invariant-loop-k g l = ArePut l.k l.initial.sides.items l.additions l.sides.items
