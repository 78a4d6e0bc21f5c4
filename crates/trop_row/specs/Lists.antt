-- Lists of rows and of inequalities, with their number of coordinates.
use Rattle.std.specs.Prelude.{ℕ, List}
use Rattle.trop_theory.specs.Inequalities.{Inequality}

-- rows in n coordinates, and how many more fit without memory
pub record RowList (V : Type 0) : Type 0 where
  pub n : ℕ
  pub rows : List (List V)
  pub spare : ℕ

-- inequalities in n coordinates, and how many more fit without memory
pub record InequalityList (V : Type 0) : Type 0 where
  pub n : ℕ
  pub inequalities : List (Inequality V)
  pub spare : ℕ
