-- The matrices that come of one by an operation.
use Rattle.std.specs.Prelude.{◌<◌, ◌^◌, ℕ}
use Rattle.zone_theory.specs.Matrices.{Matrix}
use Rattle.zone_theory.specs.Forgetting.{forgotten}
use Rattle.zone_theory.specs.Assigning.{assigned}
use Rattle.zone_theory.specs.Adding.{added}
use Rattle.zone_tables.specs.Sizes.{IsBetween}
use Rattle.zone_tables.specs.declared.changes.Change.{Change}
use Rattle.zone_tables.specs.declared.changes.Change.TheVariants.{Forget, Assign, Add}

abbrev pub changed : Change → Matrix → Matrix
changed (Forget v) m = forgotten m v
changed (Assign v f c) m = assigned m v f c
changed (Add i j c) m = added m i j c

-- the change reads bounds of n coordinates, and its number is as small as those of programs make it
abbrev pub IsIn : ℕ → Change → Type 0
IsIn n (Forget v) = Unit {0}
IsIn n (Assign v f c) = (f < n) × IsBetween (2 ^ 40) c
IsIn n (Add i j c) = (i < n) × (j < n) × IsBetween (2 ^ 40) c
