-- Bounds of too great a size.
use Rattle.std.specs.Prelude.{◌<◌, ◌^◌, ℕ, List, slice_index_or, Some, None, unsigned_abs}
use Rattle.zone_theory.specs.Bounds.{Bound}
use Rattle.zone_theory.specs.Relations.{most_bound}

-- the bound is a number of too great a size
abbrev pub IsLarge : Bound → Type 0
IsLarge None = ⊥
IsLarge (Some z) = most_bound < unsigned_abs z

pub record HasLarge (bounds : List Bound) : Type 0 where
  pub place : ℕ
  pub large : IsLarge (slice_index_or bounds place None)
