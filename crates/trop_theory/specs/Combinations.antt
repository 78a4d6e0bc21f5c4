-- Combinations of rows: the cone that they generate.
use Rattle.std.specs.Prelude.{◌≡◌, ◌<◌, ℕ, List, [], ◌∷◌, length, All, remove, slice_index_or}
use Rattle.trop_theory.specs.Semiring.{Semiring}
use Rattle.trop_theory.specs.Vectors.{scaled, joined, bottom}

-- the sum of the rows, each scaled by its coefficient
abbrev pub combined : {V : Type 0} → Semiring V → ℕ → List V → List (List V) → List V
combined R n [] rows = bottom R n
combined R n (c ∷ cs) [] = bottom R n
combined R n (c ∷ cs) (g ∷ rows) = joined R (scaled R c g) (combined R n cs rows)

-- x is a combination of the rows in n coordinates
pub record IsCombination {V : Type 0} (R : Semiring V) (n : ℕ) (rows : List (List V)) (x : List V) : Type 0 where
  pub coefficients : List V
  pub one_each : length coefficients ≡ length rows
  pub is_sum : x ≡ combined R n coefficients rows

-- each row of either list is a combination of the other
pub record SameCone {V : Type 0} (R : Semiring V) (n : ℕ) (rows others : List (List V)) : Type 0 where
  pub there : All (IsCombination R n others) rows
  pub back : All (IsCombination R n rows) others

-- each of the first k rows is no combination of the others
abbrev pub AreIndependent : {V : Type 0} → Semiring V → ℕ → List (List V) → ℕ → Type 0
AreIndependent {V} R n rows k = (j : ℕ) (d : List V) → j < k →
    IsCombination R n (remove rows j) (slice_index_or rows j d) → ⊥
