-- Sizes at which rows can be reduced, inequalities converted, and a vector looked at.
use Rattle.std.specs.Prelude.{◌≤◌, ◌^◌}
use Rattle.trop_theory.specs.Vectors.{row_size, rows_size}
use Rattle.trop_theory.specs.Inequalities.{system_size}
use Rattle.trop_spelling.specs.Over.{Over, Holds}
use Rattle.trop_files.specs.Generators.{Rows}
use Rattle.trop_files.specs.InequalityFiles.{Systems}
use Rattle.trop_files.specs.AtFiles.{At}

abbrev pub AreSmall : Over Rows → Type 0
AreSmall = Holds (λ V kind R N rows. rows_size R rows ≤ 2 ^ 59)

abbrev pub IsConvertible : Over Systems → Type 0
IsConvertible = Holds (λ V kind R N system. system_size R system ≤ 2 ^ 49)

abbrev pub IsVisible : Over At → Type 0
IsVisible = Holds (λ V kind R N p. (row_size R p.row ≤ 2 ^ 60) × (system_size R p.inequalities ≤ 2 ^ 49))
