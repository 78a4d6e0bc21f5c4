-- An inequality that tells a vector from the combinations of rows.
-- G. Cohen, S. Gaubert, J.-P. Quadrat: Duality and separation theorems in idempotent semimodules (2004).
use Rattle.std.specs.Prelude.{◌≡◌, ◌≢◌, ◌<◌, ℕ, List, length, Any, slice_set}
use Rattle.trop_theory.specs.Semiring.{Semiring}
use Rattle.trop_theory.specs.Vectors.{entry, bottom}
use Rattle.trop_theory.specs.Inequalities.{Inequality, IsTrueAt, IsValidOn}
use Rattle.trop_theory.specs.Combinations.{IsCombination}
use Rattle.trop_theory.specs.Residual.{Meets}
use Rattle.trop_theory.specs.Residual.{IsFirstUnmet}

-- x_t is at most the sum of p_j x_j over the j other than t: true at each combination of the rows, and false at x, at
-- the first unmet t
pub record Separates {V : Type 0} (R : Semiring V) (n : ℕ) (rows : List (List V)) (x : List V)
    (p : Inequality V) : Type 0 where
  pub place : ℕ
  pub first : IsFirstUnmet R rows x place
  pub wide : length p.right ≡ n
  pub left : p.left ≡ slice_set (bottom R n) place R.one
  pub right : entry R p.right place ≡ R.zero
  pub valid : IsValidOn R (IsCombination R n rows) p
  pub fails : IsTrueAt R p x → ⊥
