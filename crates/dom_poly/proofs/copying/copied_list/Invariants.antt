use Rattle.std.proofs.Common.{◌≡◌, take}
use Rattle.dom_poly.proofs.copying.copied_list.Given as goal

abbrev pub invariant-loop-ineq : goal.invariant-loop-ineq
invariant-loop-ineq g l = record {
  width : l.out.n ≡ l.list.n;
  same : l.out.inequalities ≡ take l.ineq-index l.inequalities;
}
