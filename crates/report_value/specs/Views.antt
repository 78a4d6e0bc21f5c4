-- A report over some semiring, and what the parts of one stand for.
use Rattle.std.specs.Prelude.{ℕ, Bool, List, map}
use Rattle.prog_theory.specs.Named.{Named, nameless}
use Rattle.cone_reports.specs.Reports.{Part, Report}
use Rattle.report_value.specs.declared.parts.PointPart.{PointPart}

-- a report over some semiring: a report's text without its mode
pub record ReportOver (V : Type 0) : Type 0 where
  pub delay : ℕ
  pub narrow : ℕ
  pub passes : ℕ
  pub program : Named
  pub parts : List (Part V)
  pub verdicts : List Bool

abbrev pub part_of : {V Store : Type 0} → PointPart V Store → Part V
part_of p = record { rows = p.rows.rows; printed = p.invs.inequalities }

abbrev pub parts_of : {V Store : Type 0} → List (PointPart V Store) → List (Part V)
parts_of ps = map part_of ps

abbrev pub report_of : {V Store : Type 0} → ℕ → ℕ → ℕ → Named → List (PointPart V Store) → List Bool → ReportOver V
report_of delay narrow passes program parts verdicts = record {
  delay = delay;
  narrow = narrow;
  passes = passes;
  program = program;
  parts = parts_of parts;
  verdicts = verdicts;
}

-- what it says of its program
abbrev pub said : {V : Type 0} → ReportOver V → Report V
said r = record { program = nameless r.program; parts = r.parts; verdicts = r.verdicts }
