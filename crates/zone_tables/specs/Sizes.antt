-- How large bounds are.
use Rattle.std.specs.Prelude.{ℕ, ℤ, pos, neg_ℤ, ◌≤ℤ◌, List, slice_index_or, Some, None}
use Rattle.zone_theory.specs.Bounds.{Bound}

-- a number has at most this size
pub record IsBetween (most : ℕ) (z : ℤ) : Type 0 where
  pub low : neg_ℤ (pos most) ≤ℤ z
  pub high : z ≤ℤ pos most

abbrev pub IsWithin : ℕ → Bound → Type 0
IsWithin most None = Unit {0}
IsWithin most (Some z) = IsBetween most z

-- each bound of a list
abbrev pub AreWithin : ℕ → List Bound → Type 0
AreWithin most bounds = (k : ℕ) → IsWithin most (slice_index_or bounds k None)
