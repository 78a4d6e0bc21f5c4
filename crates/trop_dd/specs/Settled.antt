-- What becomes of the rows and of what is carried beside them, once an inequality was taken.
use Rattle.std.specs.Prelude.{◌≡◌, ◌<◌, ◌≤◌, ◌++◌, ℕ, List, length, slice_index_or}
use Rattle.trop_pruning.specs.Judged.{Side}
use Rattle.trop_pruning.specs.Kept.{IsPut, IsSettled}
use Rattle.trop_pairs.specs.declared.keeping.Addition.{Addition}
use Rattle.trop_dd.specs.Numbers.{AreMoved}

-- the slots of the first m additions are put beside the first m rows
pub record ArePut {V : Type 0} (m : ℕ) (olds : List (Side V)) (additions : List (Addition V))
    (news : List (Side V)) : Type 0 where
  pub many : length news ≡ length olds
  pub put : (k : ℕ) (d : Side V) (e : Addition V) → k < m → k < length olds →
      IsPut (slice_index_or olds k d) (slice_index_or additions k e).slot (slice_index_or news k d)
  pub rest : (k : ℕ) (d : Side V) → m ≤ k → k < length olds → slice_index_or news k d ≡ slice_index_or olds k d

-- the additions are settled beside the first rows, and the others are as they were
pub record AreSettled {V : Type 0} (olds : List (Side V)) (additions : List (Addition V)) (news : List (Side V)) :
    Type 0 where
  pub many : length news ≡ length olds
  pub settled : (k : ℕ) (d : Side V) (e : Addition V) → k < length additions → k < length olds →
      IsSettled (slice_index_or olds k d) (slice_index_or additions k e).slot (slice_index_or additions k e).types
      (slice_index_or additions k e).alone (slice_index_or news k d)
  pub rest : (k : ℕ) (d : Side V) → length additions ≤ k → k < length olds →
      slice_index_or news k d ≡ slice_index_or olds k d

-- the new list has the rows of the order by new numbers, where the fresh ones come behind the old ones, with the
-- additions settled beside the old ones
pub record AreArranged {V : Type 0} (olds : List (Side V)) (additions : List (Addition V)) (fresh : List (Side V))
    (order : List ℕ) (news : List (Side V)) (numbers : List ℕ) : Type 0 where
  pub between : List (Side V)
  pub settled : AreSettled (olds ++ fresh) additions between
  pub moved : AreMoved between order news numbers
