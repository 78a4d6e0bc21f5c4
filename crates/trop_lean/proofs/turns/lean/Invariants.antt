use Rattle.std.proofs.Common.{◌≡◌, ◌≤◌, ◌^◌, length, take, drop}
use Rattle.trop_theory.specs.Inequalities.{system_size}
use Rattle.trop_duality.proofs.LeanLoops.{IsLeanSoFar, IsUnstopped}
use Rattle.trop_lean.specs.Fronts.{AreFrontsWithin}
use Rattle.trop_lean.proofs.turns.lean.Given as goal

abbrev pub invariant-loop-k : goal.invariant-loop-k
invariant-loop-k g l = let R = g.S.Scalar.ring in record {
  width : l.list.kept.n ≡ l.system.n;
  row_width : l.list.rows.n ≡ l.system.n;
  base_width : l.base.n ≡ l.system.n;
  front : l.base.system ≡ take (length l.base.system) l.list.kept.inequalities;
  fronts : AreFrontsWithin R l.system.n l.base.system;
  size : system_size R l.list.kept.inequalities ≤ 2 ^ 49;
  few : length l.list.kept.inequalities ≤ l.k;
  one_each : length l.list.rows.rows ≡ length l.list.kept.inequalities;
  lean : IsLeanSoFar R l.system.n l.system.inequalities l.list.kept.inequalities l.list.rows.rows
      (drop l.k l.system.inequalities);
  unstopped : IsUnstopped R l.system.n l.system.inequalities l.list.kept.inequalities l.k
      (drop l.k l.system.inequalities);
  looks : l.initial.looks ≤ l.looks;
}
