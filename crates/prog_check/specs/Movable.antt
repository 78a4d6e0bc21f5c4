-- What rows an operation is applied to, and which operations.
use Rattle.std.specs.Prelude.{◌≢◌, ◌-◌, ◌≤◌, ℕ, List, All, length}
use Rattle.trop_theory.specs.Semiring.{Semiring}
use Rattle.trop_theory.specs.Vectors.{bottom, rows_size}
use Rattle.prog_theory.specs.Each.{EachOp}
use Rattle.prog_theory.specs.Edges.{Op}
use Rattle.prog_theory.specs.Fits.{FitsOp}
use Rattle.prog_theory.specs.Within.{IsNumberWithin}
use Rattle.prog_check.specs.Limits.{most_row, most_rows, most_add}

-- the operation is one over the n - 1 variables, and its numbers and the rows are within the limits of a report
pub record IsMovable {V : Type 0} (R : Semiring V) (n : ℕ) (op : Op) (rows : List (List V)) : Type 0 where
  pub fits : FitsOp (n - 1) op
  pub numbers : EachOp (λ x. Unit {0}) (IsNumberWithin most_add) op
  pub few : length rows ≤ most_rows
  pub size : rows_size R rows ≤ most_row
  pub finite : All (λ row. row ≢ bottom R n) rows
