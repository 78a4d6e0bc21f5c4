-- What a widening keeps, and what comes of it.
use Rattle.std.specs.Prelude.{◌≡◌, ◌⊎◌, ◌^◌, ℕ, suc, List, Option, Result, Err}
use Rattle.prog_theory.specs.States.{State}
use Rattle.zone_theory.specs.Bounds.{Bound}
use Rattle.zone_theory.specs.Matrices.{InZone}
use Rattle.zone_theory.specs.Widening.{IsKept, basis}
use Rattle.zone_theory.specs.Width.{numbers}
use Rattle.dom_core.specs.declared.error.DomErr.{DomErr}
use Rattle.dom_core.specs.declared.error.DomErr.TheVariants.{NoMemory}
use Rattle.zone_tables.specs.Tables.{IsTable}
use Rattle.zone_tables.specs.Sizes.{AreWithin}
use Rattle.zone_lists.specs.Zones.{ZoneList, matrix_in, matrix_if}
use Rattle.zone_tables.specs.Passes.{IsClosing}
use Rattle.dom_zone.specs.Answers.{IsFittedWith}

-- bounds of small numbers whose zone has a state
pub record IsBasis (vars : ℕ) (kept : List Bound) : Type 0 where
  pub table : IsTable (suc vars) kept
  pub within : AreWithin (2 ^ 40) kept
  pub some : (s : State) × InZone vars (matrix_in vars kept) s

-- of the bounds with which the widening begins those that hold on the zone that was reached
pub record IsLeft (vars : ℕ) (bounds : List Bound) (kept : Option (List Bound)) (reached left : List Bound) : Type 0
  where
    pub begins : IsBasis vars left
    pub stays : IsKept vars (InZone vars (matrix_in vars reached)) (basis (matrix_in vars bounds) (matrix_if vars kept))
        (matrix_in vars left)

-- the value of the kept bounds, or its refusal
abbrev pub IsSolved : ℕ → List Bound → Result ZoneList DomErr → Type 0
IsSolved vars kept result = (result ≡ Err NoMemory) ⊎
    ((bounds : List Bound) × IsClosing vars kept bounds ×
    IsFittedWith vars bounds kept (numbers vars (matrix_in vars kept)) result)
