-- Sides that are judged on the combinations of rows.
use Rattle.std.specs.Prelude.{◌≡◌, ◌≤◌, ◌*◌, ℕ, suc, List, All}
use Rattle.trop_theory.specs.Semiring.{Semiring}
use Rattle.trop_theory.specs.Vectors.{rows_size}
use Rattle.trop_theory.specs.Sizes.{most_entry}
use Rattle.trop_row.specs.Lists.{RowList}
use Rattle.prog_theory.specs.States.{Term}
use Rattle.mixed_claims.specs.Terms.{IsTermOf}

-- the terms are ones on so many variables; the rows have a coordinate 0, one for each variable and one for its opposite
pub record AreSidesOn {V : Type 0} (R : Semiring V) (vars : ℕ) (rows : RowList V) (left right : List Term) : Type 0
  where
    pub few : vars ≤ 31
    pub left_fits : All (IsTermOf vars) left
    pub right_fits : All (IsTermOf vars) right
    pub wide : rows.n ≡ suc (2 * vars)
    pub size : rows_size R rows.rows ≤ most_entry
