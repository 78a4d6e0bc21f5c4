-- What the rows and the inequality of an elementary step have to be.
use Rattle.std.specs.Prelude.{◌≡◌, ◌≢◌, ◌≤◌, List, length}
use Rattle.trop_theory.specs.Sizes.{most_coefficient, most_mixed}
use Rattle.trop_theory.specs.Semiring.{Semiring}
use Rattle.trop_theory.specs.Vectors.{bottom, row_size}
use Rattle.trop_theory.specs.Inequalities.{Inequality, IsTrueAt, IsIn, inequality_size}

-- a row other than bottom with as many entries as the inequality has coefficients, both small
pub record CanStep {V : Type 0} (R : Semiring V) (p : Inequality V) (x : List V) : Type 0 where
  pub sides : IsIn (length x) p
  pub row_small : row_size R x ≤ most_mixed
  pub small : inequality_size R p ≤ most_coefficient
  pub finite : x ≢ bottom R (length x)

-- a kept and a dropped row
pub record CanMix {V : Type 0} (R : Semiring V) (p : Inequality V) (v w : List V) : Type 0 where
  pub kept : CanStep R p v
  pub dropped : CanStep R p w
  pub lengths : length v ≡ length w
  pub true_at : IsTrueAt R p v
  pub false_at : IsTrueAt R p w → ⊥
