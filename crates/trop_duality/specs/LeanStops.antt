-- Where making a list lean stops at the limit: at the first turn whose rest has a front with too many extreme rows.
use Rattle.std.specs.Prelude.{◌≡◌, ◌⊎◌, ℕ, zero, suc, List, [], ◌∷◌, ◌++◌}
use Rattle.trop_theory.specs.Semiring.{Semiring}
use Rattle.trop_theory.specs.Inequalities.{Inequality, Solves, IsValidOn}
use Rattle.trop_cones.specs.RowStops.{IsRowsStop}

-- The inequalities of front stand, and those of system are taken in order: k turns go well, and at the next one the
-- first j inequalities of the rest are too many.
abbrev pub IsLeanStopAfter : {V : Type 0} → Semiring V → ℕ → List (Inequality V) → List (Inequality V) → ℕ → ℕ → Type 0
IsLeanStopAfter R n front [] k j = ⊥
IsLeanStopAfter R n front (p ∷ system) zero j = IsRowsStop R n (front ++ system) j
IsLeanStopAfter R n front (p ∷ system) (suc k) j =
    ((i : ℕ) → IsRowsStop R n (front ++ system) i → ⊥)
    × ((IsValidOn R (Solves R n (front ++ system)) p × IsLeanStopAfter R n front system k j)
    ⊎ ((IsValidOn R (Solves R n (front ++ system)) p → ⊥) × IsLeanStopAfter R n (front ++ p ∷ []) system k j))

-- turn k, from 1, stops at the first j inequalities of its rest
pub record IsLeanStop {V : Type 0} (R : Semiring V) (n : ℕ) (system : List (Inequality V)) (k j : ℕ) : Type 0 where
  pub before : ℕ
  pub number : k ≡ suc before
  pub stops : IsLeanStopAfter R n [] system before j
