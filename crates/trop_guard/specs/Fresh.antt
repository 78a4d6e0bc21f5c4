-- The new extreme rows of a cone after one more inequality: mixed rows of a kept and a dropped row that no kept row and
-- no other mixed row keeps from being minimal at some coordinate.
-- Allamigeon, Gaubert, Goubault: The tropical double description method (2010).
use Rattle.std.specs.Prelude.{◌≢◌, ℕ, List, Any}
use Rattle.trop_theory.specs.Semiring.{Semiring}
use Rattle.trop_theory.specs.Vectors.{entry, dot, Below}
use Rattle.trop_theory.specs.Inequalities.{Inequality}
use Rattle.trop_theory.specs.Steps.{mixed}
use Rattle.trop_theory.specs.Residual.{Meets}
use Rattle.trop_cones.specs.Minimal.{at_one}

-- g is below x, and differs, when both are scaled to the one at t
pub record IsLower {V : Type 0} (R : Semiring V) (x : List V) (t : ℕ) (g : List V) : Type 0 where
  pub finite : entry R g t ≢ R.zero
  pub below : Below R (at_one R t g) (at_one R t x)
  pub strictly : Below R (at_one R t x) (at_one R t g) → ⊥

-- some kept row with a finite right side gives with w a mixed row that is lower than x at t
abbrev pub HasLowerWith : {V : Type 0} → Semiring V → Inequality V → List (List V) → List V → ℕ → List V → Type 0
HasLowerWith R p kept x t w = Any (λ v. (dot R p.right v ≢ R.zero) × IsLower R x t (mixed R p.left p.right v w)) kept

-- so it is with some dropped row that meets x at t
abbrev pub HasLower : {V : Type 0} → Semiring V → Inequality V → List (List V) → List (List V) → List V → ℕ → Type 0
HasLower R p kept dropped x t = Any (λ w. Meets R x t w × HasLowerWith R p kept x t w) dropped

-- at t no kept row meets x, and no mixed row is lower
pub record IsFreshAt {V : Type 0} (R : Semiring V) (p : Inequality V) (kept dropped : List (List V)) (x : List V)
    (t : ℕ) : Type 0 where
  pub finite : entry R x t ≢ R.zero
  pub unmet : Any (Meets R x t) kept → ⊥
  pub none_lower : HasLower R p kept dropped x t → ⊥
