-- Closing a matrix by one coordinate after another (Floyd 1962): in the pass of k each way may lead over k.
use Rattle.std.specs.Prelude.{◌<◌, ◌≤◌, ◌+◌, ◌^◌, ℕ, ℤ, ◌+ℤ◌, suc, List}
use Rattle.prog_theory.specs.States.{State}
use Rattle.zone_theory.specs.Bounds.{Bound, IsAtMost, least, plus}
use Rattle.zone_theory.specs.Matrices.{Matrix, InZone, entry}
use Rattle.zone_theory.specs.Closed.{IsClosed}
use Rattle.zone_tables.specs.Tables.{matrix_of, IsTable}
use Rattle.zone_tables.specs.Sizes.{AreWithin}

abbrev pub passed : Matrix → ℕ → Matrix
passed m k i j = least (entry m i j) (plus (entry m i k) (entry m k j))

-- no bound is lowered by a way over a coordinate below k
abbrev pub Through : ℕ → Matrix → ℕ → Type 0
Through d m k = (p i j : ℕ) → p < k → p ≤ d → i ≤ d → j ≤ d → (a b : ℤ) → IsAtMost (entry m i p) a
    → IsAtMost (entry m p j) b → IsAtMost (entry m i j) (a +ℤ b)

-- what the first k passes make of a list: the zone stays, and a pass at most doubles the numbers
pub record IsPassed (d : ℕ) (old : List Bound) (k : ℕ) (bounds : List Bound) : Type 0 where
  pub table : IsTable (suc d) bounds
  pub through : Through d (matrix_of (suc d) bounds) k
  pub from : (s : State) → InZone d (matrix_of (suc d) old) s → InZone d (matrix_of (suc d) bounds) s
  pub to : (s : State) → InZone d (matrix_of (suc d) bounds) s → InZone d (matrix_of (suc d) old) s
  pub within : AreWithin (2 ^ (40 + k)) bounds

-- the list of the closed matrix of a zone
pub record IsClosing (d : ℕ) (old bounds : List Bound) : Type 0 where
  pub table : IsTable (suc d) bounds
  pub closed : IsClosed d (InZone d (matrix_of (suc d) old)) (matrix_of (suc d) bounds)
