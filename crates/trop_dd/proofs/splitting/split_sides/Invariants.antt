use Rattle.std.proofs.Common.{◌≤◌}
use Rattle.trop_dd.specs.Parts.{IsSplit, AreAdditions}
use Rattle.trop_dd.proofs.splitting.split_sides.Given as goal

abbrev pub invariant-loop-place : goal.invariant-loop-place
invariant-loop-place g l = record {
  split : IsSplit g.S.Scalar.ring l.ineq l.sides l.place l.split.stay.items l.split.kept.items l.split.dropped.items;
  additions : AreAdditions g.S.Scalar.ring l.system.n l.system.inequalities l.ineq l.sides l.place
      l.split.additions.items;
  looks : l.initial.looks ≤ l.looks;
}
