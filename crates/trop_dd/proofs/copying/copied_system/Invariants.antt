use Rattle.std.proofs.Common.{◌≡◌, take}
use Rattle.trop_dd.proofs.copying.copied_system.Given as goal

abbrev pub invariant-loop-ineq : goal.invariant-loop-ineq
invariant-loop-ineq g l = record {
  width : l.copies.n ≡ l.n;
  same : l.copies.inequalities ≡ take l.ineq-index l.inequalities;
}
