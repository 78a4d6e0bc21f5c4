-- The extreme rows of the smaller cone that were found so far.
use Rattle.std.specs.Prelude.{◌≢◌, ◌++◌, ℕ, List, All, AllPairs, Contains}
use Rattle.trop_theory.specs.Semiring.{Semiring}
use Rattle.trop_theory.specs.Vectors.{dot}
use Rattle.trop_theory.specs.Normal.{IsNormal, Normalises}
use Rattle.trop_theory.specs.Inequalities.{Inequality, InGuard}
use Rattle.trop_theory.specs.Combinations.{IsCombination}
use Rattle.trop_theory.specs.Extreme.{IsExtreme}
use Rattle.trop_theory.specs.Canonical.{RowBelow}
use Rattle.trop_theory.specs.Steps.{mixed}

-- the cone of the kept and the dropped rows, after the inequality
abbrev pub Smaller : {V : Type 0} → Semiring V → ℕ → Inequality V → List (List V) → List (List V) → List V → Type 0
Smaller R n p kept dropped = InGuard R (IsCombination R n (kept ++ dropped)) p

-- extreme rows of the smaller cone in their order, the kept ones among them
pub record AreFound {V : Type 0} (R : Semiring V) (n : ℕ) (p : Inequality V) (kept dropped found : List (List V)) :
    Type 0 where
  pub ascending : AllPairs (RowBelow R) found
  pub normal : All (IsNormal R) found
  pub extreme : All (IsExtreme R (Smaller R n p kept dropped)) found
  pub stay : All (Contains found) kept

-- if the mixed row of v and w is extreme in the smaller cone, it was found
abbrev pub HasMixed : {V : Type 0} → Semiring V → ℕ → Inequality V → List (List V) → List (List V) → List (List V) →
    List V → List V → Type 0
HasMixed {V} R n p kept dropped found v w = (x : List V) → dot R p.right v ≢ R.zero →
    Normalises R (mixed R p.left p.right v w) x → IsExtreme R (Smaller R n p kept dropped) x → Contains found x
