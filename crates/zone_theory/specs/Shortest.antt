-- Shortest paths: no two bounds give a smaller one together.
use Rattle.std.specs.Prelude.{◌≤◌, ℕ, ℤ, ◌+ℤ◌}
use Rattle.zone_theory.specs.Bounds.{IsAtMost}
use Rattle.zone_theory.specs.Matrices.{Matrix, entry}

-- The way from i over k to j isn't shorter than the bound at i and j. At equal i and j this says that no way leads
-- back to its start with a sum below 0.
pub record IsShortest (d : ℕ) (m : Matrix) : Type 0 where
  pub triangle : (i k j : ℕ) → i ≤ d → k ≤ d → j ≤ d → (a b : ℤ) → IsAtMost (entry m i k) a → IsAtMost (entry m k j) b
      → IsAtMost (entry m i j) (a +ℤ b)
