-- One turn of making a list lean.
use Rattle.std.specs.Prelude.{◌≡◌, ◌⊎◌, ◌<◌, ℕ, List, [], ◌∷◌, ◌++◌, length, slice_index_or}
use Rattle.trop_theory.specs.Semiring.{Semiring}
use Rattle.trop_theory.specs.Inequalities.{Inequality, IsTrueAt, Solves, IsValidOn}
use Rattle.trop_duality.specs.Lean.{FailsFirst}

-- the row at place k is the first at which the inequality is false
pub record IsFirstFalse {V : Type 0} (R : Semiring V) (p : Inequality V) (rows : List (List V)) (k : ℕ) : Type 0 where
  pub within : k < length rows
  pub fails : (d : List V) → IsTrueAt R p (slice_index_or rows k d) → ⊥
  pub before : (j : ℕ) (d : List V) → j < k → IsTrueAt R p (slice_index_or rows j d)

-- The turn of p, by the solutions of the rest: one that is valid there leaves the list as it was, any other stands
-- behind those of the list, with the first row at which it fails.
abbrev pub IsTurn : {V : Type 0} → Semiring V → ℕ → List (Inequality V) → Inequality V → List (Inequality V) →
    List (List V) → List (Inequality V) → List (List V) → Type 0
IsTurn {V} R n rest p kept rows kept' rows' =
    (IsValidOn R (Solves R n rest) p × (kept' ≡ kept) × (rows' ≡ rows))
    ⊎ ((w : List V) × FailsFirst R (Solves R n rest) p w × (kept' ≡ kept ++ p ∷ []) × (rows' ≡ rows ++ w ∷ []))
