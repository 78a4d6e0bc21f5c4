-- The first of some rows that is outside of a cone.
use Rattle.std.specs.Prelude.{◌<◌, ℕ, List, length, slice_index_or}

-- the row at place k is outside, and those before it are inside
pub record IsFirstOutside {V : Type 0} (rows : List (List V)) (cone : List V → Type 0) (k : ℕ) : Type 0 where
  pub within : k < length rows
  pub outside : (d : List V) → cone (slice_index_or rows k d) → ⊥
  pub before : (j : ℕ) (d : List V) → j < k → cone (slice_index_or rows j d)
