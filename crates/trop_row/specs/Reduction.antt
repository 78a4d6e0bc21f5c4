-- Which lists of rows can be made canonical.
use Rattle.std.specs.Prelude.{◌≤◌, ◌^◌, ◌⊎◌, List, All}
use Rattle.trop_theory.specs.Sizes.{most_entry, most_scaled}
use Rattle.trop_theory.specs.Semiring.{Semiring}
use Rattle.trop_theory.specs.Vectors.{rows_size}
use Rattle.trop_theory.specs.Normal.{IsNormal}

-- the normal forms have size at most 2^60
abbrev pub AreReducible : {V : Type 0} → Semiring V → List (List V) → Type 0
AreReducible R rows = (rows_size R rows ≤ most_scaled) ⊎ ((rows_size R rows ≤ most_entry) × All (IsNormal R) rows)
