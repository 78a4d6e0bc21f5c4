use Rattle.std.proofs.Common.{◌≡◌}
use Rattle.report_reading.proofs.parts.system.Given as goal

abbrev pub invariant-loop-inv : goal.invariant-loop-inv
invariant-loop-inv g l = record {
  same : l.list.inequalities ≡ l.yielded;
  width : l.list.n ≡ l.n;
}
