use Rattle.std.proofs.Common.{◌≤◌, ◌++◌, [], ◌∷◌, length, take}
use Rattle.std.specs.Prelude.{All}
use Rattle.trop_theory.specs.Canonical.{row_limit}
use Rattle.trop_dd.specs.Carried.{found_rows}
use Rattle.trop_dd.specs.Steps.{AreFound, Grows, HasGiven}
use Rattle.trop_dd.proofs.mixing.try_all.Given as goal

abbrev pub invariant-loop-part : goal.invariant-loop-part
invariant-loop-part g l = record {
  found : AreFound g.S.Scalar.ring l.system.n l.system.inequalities l.ineq l.sides l.found.fresh.items
      l.found.order.items;
  grows : Grows (found_rows l.sides l.initial.found.fresh.items l.initial.found.order.items)
      (found_rows l.sides l.found.fresh.items l.found.order.items) l.initial.looks l.looks;
  given : All (λ first. All (HasGiven g.S.Scalar.ring l.system.n l.system.inequalities l.ineq l.sides
      (found_rows l.sides l.found.fresh.items l.found.order.items) first) l.dropped) (take l.part-index l.kept);
  within : length l.found.order.items ≤ row_limit;
  looks : l.initial.looks ≤ l.looks;
}
