-- The report of the family: per point the canonical list of its cone and, where that is not empty, its external list;
-- and what the cones prove.
use Rattle.std.specs.Prelude.{◌≡◌, ◌≢◌, ◌⊎◌, ◌<◌, ℕ, Bool, [], length}
use Rattle.std.specs.List.{AllZip}
use Rattle.trop_theory.specs.Semiring.{Semiring}
use Rattle.trop_theory.specs.Numbers.{Numbering}
use Rattle.trop_theory.specs.Canonical.{IsCanonical}
use Rattle.trop_duality.specs.External.{IsExternal}
use Rattle.prog_theory.specs.Graph.{points}
use Rattle.prog_theory.specs.Named.{Named, nameless}
use Rattle.dom_theory.specs.Outcomes.{Gives}
use Rattle.dom_theory.specs.Analysis.{End}
use Rattle.cone_reports.specs.Asserts.{asserts}
use Rattle.cone_reports.specs.Reports.{Part, Report, part_at}
use Rattle.cone_domain.specs.Values.{Value, coordinates, cone_of}
use Rattle.cone_domain.specs.Polyhedra.{IsProvenBy}
use Rattle.dom_family.specs.Family.{IsJudgedBy}
use Rattle.tplib_analyze.specs.Family.{FamilyOf, value_in}

-- nothing where there are no rows, else the external list of the cone
abbrev pub IsPrintedFor : {V : Type 0} → Semiring V → Value V → Part V → Type 0
IsPrintedFor R v part = ((part.rows ≡ []) × (part.printed ≡ []))
    ⊎ ((part.rows ≢ []) × IsExternal R (coordinates v) (cone_of R v) part.printed)

-- what is said of a point with this value
pub record IsPartFor {V : Type 0} (R : Semiring V) (v : Value V) (part : Part V) : Type 0 where
  pub canonical : IsCanonical R (cone_of R v) part.rows
  pub printed : IsPrintedFor R v part

pub record IsDefined {V : Type 0} (R : Semiring V) (N : Numbering V) (reversed : Bool) (delay narrow : ℕ) (p : Named)
    (passes : ℕ) (report : Report V) : Type 0 where
  pub end : End (Value V)
  -- the family that the analysis gives, and the passes of its ascent
  pub gives : FamilyOf R N reversed delay narrow p (Gives end)
  pub passes_are : passes ≡ end.passes
  pub program_is : report.program ≡ nameless p
  pub one_each : length report.parts ≡ length (points (nameless p))
  pub parts : (q : ℕ) → q < length report.parts → IsPartFor R (value_in p end.values q) (part_at report q)
  -- each verdict says whether the cone at the assert's point proves its claim
  pub verdicts : AllZip (IsJudgedBy (IsProvenBy R N reversed) (value_in p end.values)) (asserts (nameless p))
      report.verdicts
