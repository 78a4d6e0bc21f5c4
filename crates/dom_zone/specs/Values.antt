-- What every value of the code keeps.
use Rattle.std.specs.Prelude.{◌≤◌, ◌^◌, ℕ, suc, List, Option, Some, None}
use Rattle.prog_theory.specs.Edges.{Op}
use Rattle.zone_theory.specs.Bounds.{Bound}
use Rattle.zone_theory.specs.Matrices.{Matrix, InZone}
use Rattle.zone_theory.specs.Closed.{IsClosed}
use Rattle.zone_theory.specs.Zones.{IsImage, IsJoin}
use Rattle.zone_tables.specs.Tables.{IsTable}
use Rattle.zone_tables.specs.Sizes.{AreWithin}
use Rattle.zone_lists.specs.Zones.{matrix_in, matrix_if}

-- the list of a closed matrix
pub record IsClosedTable (vars : ℕ) (bounds : List Bound) : Type 0 where
  pub table : IsTable (suc vars) bounds
  pub closed : IsClosed vars (InZone vars (matrix_in vars bounds)) (matrix_in vars bounds)

-- one of small numbers
pub record IsSmallTable (vars : ℕ) (bounds : List Bound) : Type 0 where
  pub closed : IsClosedTable vars bounds
  pub within : AreWithin (2 ^ 40) bounds

-- kept bounds, whose zone is that of the matrix
pub record AreKept (vars : ℕ) (bounds kept : List Bound) : Type 0 where
  pub table : IsTable (suc vars) kept
  pub within : AreWithin (2 ^ 40) kept
  pub closed : IsClosed vars (InZone vars (matrix_in vars kept)) (matrix_in vars bounds)

abbrev pub IsSmallIf : ℕ → Option (List Bound) → Type 0
IsSmallIf vars None = Unit {0}
IsSmallIf vars (Some bounds) = IsSmallTable vars bounds

abbrev pub AreKeptIf : ℕ → Option (List Bound) → Option (List Bound) → Type 0
AreKeptIf vars bounds None = Unit {0}
AreKeptIf vars None (Some kept) = ⊥
AreKeptIf vars (Some bounds) (Some kept) = AreKept vars bounds kept

-- what every value of the code keeps
pub record IsSound (vars : ℕ) (bounds kept : Option (List Bound)) : Type 0 where
  pub few : vars ≤ 63
  pub small : IsSmallIf vars bounds
  pub keeps : AreKeptIf vars bounds kept

-- a matrix that was made, or none for the empty zone
abbrev pub IsClosedIf : ℕ → Option (List Bound) → Type 0
IsClosedIf vars None = Unit {0}
IsClosedIf vars (Some bounds) = IsClosedTable vars bounds

-- what an operation makes of a zone
pub record IsMoved (vars : ℕ) (op : Op) (x : Option Matrix) (made : Option (List Bound)) : Type 0 where
  pub closed : IsClosedIf vars made
  pub image : IsImage vars op x (matrix_if vars made)

-- the join of two zones
pub record IsMet (vars : ℕ) (x y : Option Matrix) (made : Option (List Bound)) : Type 0 where
  pub closed : IsClosedIf vars made
  pub join : IsJoin vars x y (matrix_if vars made)
