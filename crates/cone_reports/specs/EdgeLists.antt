-- The list of an edge: rows that generate the image of the combinations of rows.
use Rattle.std.specs.Prelude.{◌≡◌, ◌≢◌, ◌⊎◌, ℕ, Bool, List, [], ◌∷◌, ◌++◌, map, Any, length, slice_set}
use Rattle.std.specs.List.{AllZip}
use Rattle.trop_theory.specs.Semiring.{Semiring}
use Rattle.trop_theory.specs.Vectors.{entry, bottom}
use Rattle.trop_theory.specs.Numbers.{Numbering}
use Rattle.trop_theory.specs.Normal.{Normalises}
use Rattle.trop_theory.specs.StepList.{IsStepList, AreChosen}
use Rattle.trop_cones.specs.Sets.{assigned}
use Rattle.prog_theory.specs.Edges.{Op, Skips, Sets, Havocs, Guards}
use Rattle.cone_reports.specs.Sides.{guard_inequality}

-- the rows in normal form, bottom left out
pub record AreNormalised {V : Type 0} (R : Semiring V) (rows others : List (List V)) : Type 0 where
  pub finite : List (List V)
  pub chosen : AreChosen (λ x. x ≢ bottom R (length x)) rows finite
  pub each : AllZip (Normalises R) finite others

-- the unit row of a coordinate
abbrev pub unit_row : {V : Type 0} → Semiring V → ℕ → ℕ → List V
unit_row R n i = slice_set (bottom R n) i R.one

-- the rows that the operation makes of the rows
abbrev pub IsMovedList : {V : Type 0} → Semiring V → Numbering V → Bool → ℕ → Op → List (List V) → List (List V)
    → Type 0
IsMovedList R N reversed n Skips rows others = others ≡ rows
IsMovedList R N reversed n (Sets x t) rows others =
    AreNormalised R (map (assigned R x t.coord (N.of t.add)) rows) others
IsMovedList {V} R N reversed n (Havocs x) rows others =
    (front : List (List V)) × AreNormalised R (map (λ g. slice_set g x R.zero) rows) front
    × (others ≡ front ++ unit_row R n x ∷ [])
IsMovedList R N reversed n (Guards l r) rows others = IsStepList R (guard_inequality R N reversed n l r) rows others

-- A list without a row of finite coordinate 0 is replaced by the empty list.
abbrev pub IsEdgeList : {V : Type 0} → Semiring V → Numbering V → Bool → ℕ → Op → List (List V) → List (List V) → Type 0
IsEdgeList {V} R N reversed n op rows others =
    (moved : List (List V)) × IsMovedList R N reversed n op rows moved
    × ((Any (λ g. entry R g 0 ≢ R.zero) moved × (others ≡ moved))
    ⊎ ((Any (λ g. entry R g 0 ≢ R.zero) moved → ⊥) × (others ≡ [])))
