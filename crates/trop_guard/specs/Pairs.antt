-- Two rows and the multiples in which they are mixed, so small that the entries can be compared by products.
use Rattle.std.specs.Prelude.{◌≡◌, ◌≤◌, ◌^◌, List, length}
use Rattle.trop_theory.specs.Semiring.{Semiring}
use Rattle.trop_theory.specs.Vectors.{row_size}

pub record CanCompare {V : Type 0} (R : Semiring V) (v : List V) (left : V) (w : List V) (right : V) : Type 0 where
  pub lengths : length v ≡ length w
  pub v_small : row_size R v ≤ 2 ^ 57
  pub w_small : row_size R w ≤ 2 ^ 57
  pub left_small : R.size left ≤ 2 ^ 58
  pub right_small : R.size right ≤ 2 ^ 58
