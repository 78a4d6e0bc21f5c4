-- What is made of the value of one point.
use Rattle.std.specs.Prelude.{◌≡◌, ◌≤◌, ◌<◌, ℕ, List, All, length, slice_index_or}
use Rattle.trop_theory.specs.Semiring.{Semiring}
use Rattle.trop_theory.specs.Vectors.{rows_size}
use Rattle.trop_theory.specs.Inequalities.{IsIn, system_size}
use Rattle.trop_theory.specs.Canonical.{row_limit}
use Rattle.cone_reports.specs.Reports.{Part}
use Rattle.cone_domain.specs.Values.{Value, coordinates, IsValue}
use Rattle.cone_domain.specs.Refused.{most_value}
use Rattle.report_texts.specs.Limits.{greatest_inv}
use Rattle.report_value.specs.declared.parts.PointPart.{PointPart}
use Rattle.report_value.specs.Views.{part_of}
use Rattle.tplib_reply.specs.declared.stop.Stop.TheVariants.{Rows, Polar, Lean, At, PointPolar}
use Rattle.tplib_reply.specs.declared.refusal.Refusal.{Refusal}
use Rattle.tplib_reply.specs.declared.refusal.Refusal.TheVariants.{Text, Limit, Range, NoMemory}
use Rattle.tplib_analyze.specs.Stops.{IsListStop}
use Rattle.tplib_analyze.specs.Defined.{IsPrintedFor}

-- what a value of the code keeps
pub record IsKeptValue {V : Type 0} (R : Semiring V) (v : Value V) : Type 0 where
  pub value : IsValue R v
  pub few : length v.rows ≤ row_limit
  pub small : rows_size R v.rows ≤ most_value

-- the rows of the value and, where there are some, its external list, which does not stop
pub record IsPartMade {V : Type 0} (R : Semiring V) (v : Value V) (part : Part V) : Type 0 where
  pub kept : IsKeptValue R v
  pub rows_are : part.rows ≡ v.rows
  pub printed : IsPrintedFor R v part
  pub printed_few : length part.printed ≤ row_limit
  pub printed_wide : All (IsIn (coordinates v)) part.printed
  pub printed_small : system_size R part.printed ≤ greatest_inv
  pub unstopped : (i k : ℕ) → IsListStop R v i k → ⊥

-- in lists of the value's coordinates
pub record IsPointMade {V Store : Type 0} (R : Semiring V) (v : Value V) (p : PointPart V Store) : Type 0 where
  pub rows_width : p.rows.n ≡ coordinates v
  pub invs_width : p.invs.n ≡ coordinates v
  pub made : IsPartMade R v (part_of p)

-- the external list of the value of this point stops; want of memory is free
abbrev pub IsPartRefusal : {V : Type 0} → Semiring V → Value V → ℕ → Refusal → Type 0
IsPartRefusal R v point (Limit (PointPolar p i k)) = (p ≡ point) × IsListStop R v i k
IsPartRefusal R v point (Limit (Rows k)) = ⊥
IsPartRefusal R v point (Limit (Polar i k)) = ⊥
IsPartRefusal R v point (Limit (Lean k j)) = ⊥
IsPartRefusal R v point (Limit (At place)) = ⊥
IsPartRefusal R v point (Text fault) = ⊥
IsPartRefusal R v point (Range stop) = ⊥
IsPartRefusal R v point NoMemory = Unit {0}

-- the external list of the value of one of these points stops, and those of the points before do not
pub record IsFirstStop {V : Type 0} (R : Semiring V) (values : List (Value V)) (none : Value V)
    (point i k : ℕ) : Type 0 where
  pub inside : point < length values
  pub here : IsListStop R (slice_index_or values point none) i k
  pub before : (q : ℕ) → q < point → (j l : ℕ) → IsListStop R (slice_index_or values q none) j l → ⊥

abbrev pub IsPartsRefusal : {V : Type 0} → Semiring V → List (Value V) → Refusal → Type 0
IsPartsRefusal R values (Limit (PointPolar p i k)) = (none : Value _) → IsFirstStop R values none p i k
IsPartsRefusal R values (Limit (Rows k)) = ⊥
IsPartsRefusal R values (Limit (Polar i k)) = ⊥
IsPartsRefusal R values (Limit (Lean k j)) = ⊥
IsPartsRefusal R values (Limit (At place)) = ⊥
IsPartsRefusal R values (Text fault) = ⊥
IsPartsRefusal R values (Range stop) = ⊥
IsPartsRefusal R values NoMemory = Unit {0}
