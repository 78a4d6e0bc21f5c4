-- What the command `analyze` means over zones.
use Rattle.std.specs.Prelude.{◌≡◌, ◌≤◌, ◌+◌, ◌*◌, ℕ, true, List, Option, Some, None, All, length, slice_get}
use Rattle.prog_theory.specs.States.{State}
use Rattle.prog_theory.specs.Heads.{heads}
use Rattle.prog_theory.specs.Named.{Named, nameless}
use Rattle.prog_theory.specs.PointVisits.{Visits}
use Rattle.cone_reports.specs.Asserts.{Assertion, asserts}
use Rattle.dom_theory.specs.Analysis.{End}
use Rattle.zone_theory.specs.Matrices.{Matrix}
use Rattle.zone_theory.specs.Limits.{Meets, limits}
use Rattle.zone_theory.specs.Zones.{IsValue}
use Rattle.zone_theory.specs.Width.{pairs}
use Rattle.zone_theory.specs.Domain.{Zone}
use Rattle.zone_theory.specs.Relations.{zones}
use Rattle.dom_family.specs.Family.{FamilyOf, value_in, IsFamily, IsTrueAtVisits}
use Rattle.zone_print.specs.Reports.{proves, IsZoneReport}
use Rattle.tplib_reply.specs.Meaning.{Meaning}
use Rattle.tplib_family.specs.Stops.{IsAnalysisStop}
use Rattle.tplib_family.specs.Short.{program_meaning}

-- a zone over d variables: the empty one, or a matrix that is the closed one of its own zone
abbrev pub IsClosedOn : ℕ → Zone → Type 0
IsClosedOn d x = (x.vars ≡ d) × IsValue d x.bounds

-- the state meets each bound that the matrix has; no state meets the empty zone
abbrev pub MeetsMatrix : ℕ → Option Matrix → State → Type 0
MeetsMatrix d None s = ⊥
MeetsMatrix d (Some m) s = All (λ b. Meets b s) (limits d m)

abbrev pub MeetsBounds : Zone → State → Type 0
MeetsBounds x s = MeetsMatrix x.vars x.bounds s

-- The text is the short report of the program's family of zones. What follows from this stands beside it.
pub record IsZoneText (delay narrow : ℕ) (p : Named) (text : List ℕ) : Type 0 where
  pub end : End Zone
  pub family : IsFamily zones proves delay narrow p end
  pub closed : All (IsClosedOn (length p.names)) end.values
  -- per point the bounds of its zone, and per assert whether the zone of its point proves its claim
  pub report : IsZoneReport delay narrow end.passes p end.values text
  -- the ascent ends
  pub passes : end.passes ≤ length (heads (nameless p)) * (delay + pairs (length p.names) + 2) + 1
  -- each bound that is printed at a point holds of each state with which a run visits the point
  pub bounds : (q : ℕ) (s : State) → Visits (nameless p) q s → MeetsBounds (value_in zones p end.values q) s
  -- each claim that is said to be proved is true at each visit of its statement
  pub claims : (k : ℕ) (a : Assertion) → slice_get (asserts (nameless p)) k ≡ Some a →
      slice_get report.verdicts k ≡ Some true → IsTrueAtVisits p a

-- The bytes spell a program, whatever the words of its asserts; the analysis stops at its first refused part.
abbrev pub zone_meaning : ℕ → ℕ → Meaning Named
zone_meaning delay narrow =
    program_meaning (λ p. IsAnalysisStop (FamilyOf zones delay narrow p)) (IsZoneText delay narrow)
