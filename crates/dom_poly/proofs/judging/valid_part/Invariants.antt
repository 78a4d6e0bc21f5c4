use Rattle.std.proofs.Common.{◌≡◌, ◌≤◌, length, take}
use Rattle.trop_theory.specs.Inequalities.{IsValidOn}
use Rattle.trop_theory.specs.Combinations.{IsCombination}
use Rattle.trop_theory.specs.StepList.{AreChosen}
use Rattle.dom_poly.proofs.judging.valid_part.Given as goal

abbrev pub invariant-loop-ineq : goal.invariant-loop-ineq
invariant-loop-ineq g l = record {
  width : l.part.n ≡ l.list.n;
  room : length l.part.inequalities ≤ l.ineq-index;
  chosen : AreChosen (IsValidOn g.S.Scalar.ring (IsCombination g.S.Scalar.ring l.rows.n l.rows.rows))
      (take l.ineq-index l.inequalities) l.part.inequalities;
}
