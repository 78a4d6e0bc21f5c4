-- The sample: a system of inequalities in max-plus that a seed, a number of variables and a number of inequalities
-- determine. Each coefficient comes from one draw, inequality by inequality and in each coordinate by coordinate.
use Rattle.std.specs.Prelude.{ℕ, ◌+◌, ◌*◌, ◌/◌, ◌%◌, ◌==◌, cond, ℤ, pos, ◌-ℤ◌, Option, Some, None, List, map}
use Rattle.std.specs.List.{range_with_len}
use Rattle.trop_theory.specs.Inequalities.{Inequality}
use Rattle.trop_sample.specs.Draws.{draw}

-- the number that a draw stands for, from -10 to 10
abbrev pub coefficient : ℕ → Option ℤ
coefficient v = Some (pos (v / 3 % 21) -ℤ pos 10)

-- Of three draws one puts its number on the left, one on the right, and one nowhere. Where no number stands, the
-- coefficient is the zero of max-plus.
abbrev pub left_coefficient : ℕ → Option ℤ
left_coefficient v = cond (v % 3 == 0) (coefficient v) None

abbrev pub right_coefficient : ℕ → Option ℤ
right_coefficient v = cond (v % 3 == 1) (coefficient v) None

-- the inequality in n coordinates whose first draw has this number
abbrev pub inequality_from : ℕ → ℕ → ℕ → Inequality (Option ℤ)
inequality_from seed n first = record {
  left = map (λ i. left_coefficient (draw seed (first + i))) (range_with_len 0 n);
  right = map (λ i. right_coefficient (draw seed (first + i))) (range_with_len 0 n);
}

-- the sample: coordinate 0 is that of constants, so there is one coordinate more than there are variables
abbrev pub sample_of : ℕ → ℕ → ℕ → List (Inequality (Option ℤ))
sample_of seed vars rows = map (λ k. inequality_from seed (vars + 1) (k * (vars + 1))) (range_with_len 0 rows)
