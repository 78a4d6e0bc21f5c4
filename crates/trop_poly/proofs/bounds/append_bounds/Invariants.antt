use Rattle.std.proofs.Common.{◌≡◌, ◌+◌, ◌≤◌, length, take}
use Rattle.trop_theory.specs.Canonical.{row_limit}
use Rattle.trop_poly.specs.Bounds.{AreAppended}
use Rattle.trop_poly.proofs.bounds.append_bounds.Given as goal

abbrev pub invariant-loop-row : goal.invariant-loop-row
invariant-loop-row g l = record {
  width : l.system.n ≡ l.initial.system.n;
  room : length l.system.inequalities ≤ row_limit + l.row-index;
  bounded : AreAppended g.S.Scalar.ring l.i (take l.row-index l.polar) l.initial.system.inequalities
      l.system.inequalities;
}
