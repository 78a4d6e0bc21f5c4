use Rattle.std.proofs.Common.{take}
use Rattle.std.specs.Prelude.{All}
use Rattle.trop_theory.specs.Inequalities.{IsTrueAt}
use Rattle.trop_lean.proofs.failing.first_false.Given as goal

abbrev pub invariant-loop-k : goal.invariant-loop-k
invariant-loop-k g l = All (IsTrueAt g.S.Scalar.ring l.ineq) (take l.k l.rows)
