use Rattle.std.proofs.Common.{take, []}
use Rattle.trop_dd.specs.Carried.{AreBeside}
use Rattle.trop_dd.proofs.units.unit_sides.Given as goal

abbrev pub invariant-loop-k : goal.invariant-loop-k
invariant-loop-k g l = AreBeside g.S.Scalar.ring l.n [] (take l.k l.rows) l.sides.items
