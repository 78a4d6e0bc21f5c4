use Rattle.std.proofs.Common.{◌≡◌, ◌≤◌, ◌<◌, ◌+◌, ◌++◌, ℕ, length, take}
use Rattle.trop_theory.specs.Inequalities.{Solves}
use Rattle.trop_theory.specs.Canonical.{IsOverLimit}
use Rattle.trop_dd.specs.Description.{CountsNew}
use Rattle.trop_dd.proofs.conversion.Conversion.push_all.Given as goal

abbrev pub invariant-loop-ineq : goal.invariant-loop-ineq
invariant-loop-ineq g l = record {
  width : l.self.n ≡ l.initial.self.n;
  front : l.self.system ≡ take (length l.initial.self.system + l.ineq-index) (l.initial.self.system ++ l.more);
  within : (j : ℕ) → length l.initial.self.system < j → j ≤ length l.initial.self.system + l.ineq-index →
      IsOverLimit g.S.Scalar.ring
      (Solves g.S.Scalar.ring l.initial.self.n (take j (l.initial.self.system ++ l.more))) → ⊥;
  counts : CountsNew g.S.Scalar.ring l.initial.self.rows l.self.rows l.initial.looks l.looks;
  kept : l.initial.looks ≤ l.looks;
}
