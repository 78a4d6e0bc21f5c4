-- What a file may hold: how many variables, vectors and inequalities, and how great their numbers are.
use Rattle.std.specs.Prelude.{◌≡◌, ◌≤◌, ◌+◌, ℕ, List, length, All}
use Rattle.trop_theory.specs.Semiring.{Semiring}
use Rattle.trop_theory.specs.Vectors.{AreWide, row_size, rows_size}
use Rattle.trop_theory.specs.Inequalities.{Inequality, IsIn, system_size}
use Rattle.trop_spelling.specs.Over.{Over, Holds}
use Rattle.trop_files.specs.Header.{most_names}
use Rattle.trop_files.specs.Generators.{Rows, most_generators, greatest_number}
use Rattle.trop_files.specs.InequalityFiles.{Systems, most_inequalities}
use Rattle.trop_files.specs.PairFiles.{Two}
use Rattle.trop_files.specs.AtFiles.{At}

-- a list of vectors of n coordinates that a file may hold
pub record AreFileRows {V : Type 0} (R : Semiring V) (n : ℕ) (rows : List (List V)) : Type 0 where
  pub few : length rows ≤ most_generators
  pub wide : AreWide n rows
  pub small : rows_size R rows ≤ greatest_number

-- inequalities of n coordinates that a file may hold
pub record AreFileInequalities {V : Type 0} (R : Semiring V) (n : ℕ) (system : List (Inequality V)) : Type 0 where
  pub few : length system ≤ most_inequalities
  pub wide : All (IsIn n) system
  pub small : system_size R system ≤ greatest_number

pub record AreFileTwo {V : Type 0} (R : Semiring V) (n : ℕ) (lists : Two V) : Type 0 where
  pub left : AreFileRows R n lists.left
  pub right : AreFileRows R n lists.right

pub record IsFileAt {V : Type 0} (R : Semiring V) (n : ℕ) (at : At V) : Type 0 where
  pub inequalities : AreFileInequalities R n at.inequalities
  pub wide : length at.row ≡ n
  pub small : row_size R at.row ≤ greatest_number

-- ---- over the semiring of the file, with a coordinate for each of the names and coordinate 0

pub record HoldsRows (names : List (List ℕ)) (rows : Over Rows) : Type 0 where
  pub names_few : length names ≤ most_names
  pub rows_are : Holds (λ V kind R N xs. AreFileRows R (length names + 1) xs) rows

pub record HoldsInequalities (names : List (List ℕ)) (system : Over Systems) : Type 0 where
  pub names_few : length names ≤ most_names
  pub system_is : Holds (λ V kind R N xs. AreFileInequalities R (length names + 1) xs) system

pub record HoldsTwo (names : List (List ℕ)) (lists : Over Two) : Type 0 where
  pub names_few : length names ≤ most_names
  pub lists_are : Holds (λ V kind R N x. AreFileTwo R (length names + 1) x) lists

pub record HoldsAt (names : List (List ℕ)) (body : Over At) : Type 0 where
  pub names_few : length names ≤ most_names
  pub body_is : Holds (λ V kind R N x. IsFileAt R (length names + 1) x) body
