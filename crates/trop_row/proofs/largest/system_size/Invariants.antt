use Rattle.std.proofs.Common.{◌≡◌, take}
use Rattle.trop_theory.specs.Inequalities.{system_size}
use Rattle.trop_row.proofs.largest.system_size.Given as goal

abbrev pub invariant-loop-ineq : goal.invariant-loop-ineq
invariant-loop-ineq g l = l.largest ≡ system_size g.S.Scalar.ring (take l.ineq-index l.system)
