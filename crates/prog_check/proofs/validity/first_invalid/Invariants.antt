use Rattle.std.proofs.Common.{◌<◌, ℕ, get_or}
use Rattle.trop_theory.specs.Inequalities.{Inequality, IsValidOn}
use Rattle.trop_theory.specs.Combinations.{IsCombination}
use Rattle.prog_check.proofs.validity.first_invalid.Given as goal

abbrev pub invariant-loop-k : goal.invariant-loop-k
invariant-loop-k g l = (j : ℕ) (d : Inequality _) → j < l.k →
    IsValidOn g.S.Scalar.ring (IsCombination g.S.Scalar.ring l.rows.n l.rows.rows) (get_or l.list.inequalities j d)
