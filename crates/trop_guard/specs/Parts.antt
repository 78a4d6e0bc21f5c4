-- The rows of a cone, parted by an inequality.
use Rattle.std.specs.Prelude.{◌≡◌, ◌≤◌, ◌^◌, ℕ, List, map, All}
use Rattle.trop_theory.specs.Semiring.{Semiring}
use Rattle.trop_theory.specs.Vectors.{dot, row_size, rows_size, AreWide}
use Rattle.trop_theory.specs.Normal.{IsNormal}
use Rattle.trop_theory.specs.Inequalities.{Inequality, IsTrueAt, IsIn, inequality_size}

-- the inequality is true at the kept rows, whose sums of its right side are given, and false at the dropped ones
pub record AreParts {V : Type 0} (R : Semiring V) (n : ℕ) (p : Inequality V) (kept : List (List V)) (rights : List V)
    (dropped : List (List V)) : Type 0 where
  pub inside : IsIn n p
  pub small : inequality_size R p ≤ 2 ^ 49
  pub kept_wide : AreWide n kept
  pub dropped_wide : AreWide n dropped
  pub kept_small : rows_size R kept ≤ 2 ^ 57
  pub dropped_small : rows_size R dropped ≤ 2 ^ 57
  pub kept_normal : All (IsNormal R) kept
  pub dropped_normal : All (IsNormal R) dropped
  pub kept_true : All (IsTrueAt R p) kept
  pub dropped_false : All (λ w. IsTrueAt R p w → ⊥) dropped
  pub rights_are : rights ≡ map (dot R p.right) kept
