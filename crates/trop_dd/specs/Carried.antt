-- The rows of a cone with all that is carried beside them, and one more inequality.
use Rattle.std.specs.Prelude.{◌≡◌, ◌≤◌, ◌++◌, ℕ, List, [], All, Contains, length, map, slice_index_or}
use Rattle.trop_theory.specs.Sizes.{most_coefficient}
use Rattle.trop_theory.specs.Semiring.{Semiring}
use Rattle.trop_theory.specs.Inequalities.{Inequality, IsIn, inequality_size, system_size}
use Rattle.trop_pruning.specs.Judged.{Side, IsSide}
use Rattle.trop_dd.specs.Description.{Describes}
use Rattle.trop_dd.specs.Numbers.{AreNumbers}

-- the rows without what is carried beside them
abbrev pub rows_of : {V : Type 0} → List (Side V) → List (List V)
rows_of sides = map (λ side. side.row) sides

-- the rows of these numbers, where new rows come behind the old ones
abbrev pub found_rows : {V : Type 0} → List (Side V) → List (Side V) → List ℕ → List (List V)
found_rows sides fresh order = map (λ k. slice_index_or (rows_of (sides ++ fresh)) k []) order

-- these rows, each with what is carried beside it
pub record AreBeside {V : Type 0} (R : Semiring V) (n : ℕ) (system : List (Inequality V)) (rows : List (List V))
    (sides : List (Side V)) : Type 0 where
  pub each : All (IsSide R n system) sides
  pub same : rows_of sides ≡ rows

-- rows with what is carried beside them, and their numbers in an order
pub record AreCarried {V : Type 0} (R : Semiring V) (n : ℕ) (system : List (Inequality V)) (sides : List (Side V))
    (order : List ℕ) : Type 0 where
  pub each : All (IsSide R n system) sides
  pub numbers : AreNumbers (length sides) order

-- the sides, in whatever order, are carried beside the rows that describe the system, and p is one more inequality
pub record IsNext {V : Type 0} (R : Semiring V) (n : ℕ) (system : List (Inequality V)) (p : Inequality V)
    (sides : List (Side V)) : Type 0 where
  pub at_most : n ≤ 64
  pub inside : All (IsIn n) system
  pub last : IsIn n p
  pub size : system_size R system ≤ most_coefficient
  pub last_size : inequality_size R p ≤ most_coefficient
  pub rows : List (List V)
  pub described : Describes R n system rows
  pub beside : All (Contains (rows_of sides)) rows
  pub only : All (Contains rows) (rows_of sides)
  pub each : All (IsSide R n system) sides

-- the same with the numbers of the sides in the order of their rows
pub record IsNextBy {V : Type 0} (R : Semiring V) (n : ℕ) (system : List (Inequality V)) (p : Inequality V)
    (sides : List (Side V)) (order : List ℕ) : Type 0 where
  pub at_most : n ≤ 64
  pub inside : All (IsIn n) system
  pub last : IsIn n p
  pub size : system_size R system ≤ most_coefficient
  pub last_size : inequality_size R p ≤ most_coefficient
  pub described : Describes R n system (found_rows sides [] order)
  pub each : All (IsSide R n system) sides
  pub numbers : AreNumbers (length sides) order
