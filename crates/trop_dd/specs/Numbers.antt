-- The numbers of rows, in the order of the rows.
use Rattle.std.specs.Prelude.{◌≡◌, ◌<◌, ◌≤◌, ◌↔◌, ℕ, Bool, true, List, length, filter, All, Contains, slice_index, slice_index_or}
use Rattle.trop_pruning.specs.Judged.{Side}

-- the numbers are those below this many, each of them
pub record AreNumbers (many : ℕ) (order : List ℕ) : Type 0 where
  pub within : All (λ k. k < many) order
  pub all : (k : ℕ) → k < many → Contains order k

-- of the numbers in the order those that are in another list too, in the same order
pub record AreCommon (order others start : List ℕ) : Type 0 where
  pub test : ℕ → Bool
  pub filtered : start ≡ filter test order
  pub passes : All (λ k. (test k ≡ true) ↔ Contains others k) order

-- the index of each number of the order, and no index of it at the other numbers below this many
pub record IsIndex (order : List ℕ) (many : ℕ) (at : List ℕ) : Type 0 where
  pub long : length at ≡ many
  pub within : All (λ k. k < many) order
  pub here : (i : ℕ) → i < length order → slice_index at (slice_index order i) ≡ i
  pub back : (k : ℕ) → k < many → slice_index at k < length order → slice_index order (slice_index at k) ≡ k

-- at every place from this one on stands a row whose number is in the order, and each number has the row it had
pub record IsClosedTo {V : Type 0} (olds : List (Side V)) (before : List ℕ) (place : ℕ) (news : List (Side V))
    (order at : List ℕ) : Type 0 where
  pub index : IsIndex order (length news) at
  pub below : place ≤ length news
  pub taken : (k : ℕ) → place ≤ k → k < length news → slice_index at k < length order
  pub many : length order ≡ length before
  pub same : (i : ℕ) (d : Side V) → i < length before →
      slice_index_or news (slice_index order i) d ≡ slice_index_or olds (slice_index before i) d

-- the new list has the rows of the order by new numbers, and no others
pub record AreMoved {V : Type 0} (olds : List (Side V)) (order : List ℕ) (news : List (Side V)) (numbers : List ℕ) :
    Type 0 where
  pub places : AreNumbers (length news) numbers
  pub many : length numbers ≡ length order
  pub same : (i : ℕ) (d : Side V) → i < length order →
      slice_index_or news (slice_index numbers i) d ≡ slice_index_or olds (slice_index order i) d
