-- What a report keeps, over any semiring.
use Rattle.std.specs.Prelude.{◌≡◌, ◌≤◌, ◌+◌, ℕ, Bool, List, length, All}
use Rattle.trop_theory.specs.Semiring.{Semiring}
use Rattle.trop_theory.specs.Numbers.{Numbering}
use Rattle.trop_theory.specs.Vectors.{rows_size, AreWide}
use Rattle.trop_theory.specs.Normal.{IsNormal}
use Rattle.trop_theory.specs.Inequalities.{IsIn, system_size}
use Rattle.prog_theory.specs.Named.{Named, nameless}
use Rattle.prog_theory.specs.Graph.{points}
use Rattle.prog_theory.specs.ControlGraphs.{ControlGraph, graph_of}
use Rattle.prog_tree.specs.Programs.{IsProgram}
use Rattle.cone_reports.specs.Reports.{Part}
use Rattle.report_texts.specs.Limits.{most_delay, most_narrow, most_passes, greatest_normal, greatest_inv}
use Rattle.report_texts.specs.Lines.{IsPart}
use Rattle.report_texts.specs.Reports.{assert_numbers}
use Rattle.report_value.specs.declared.parts.PointPart.{PointPart}
use Rattle.report_value.specs.Views.{ReportOver, part_of, report_of}

-- a part in n coordinates: its rows in normal form, none of them all the zero, numbers of size at most 2^41 in rows and
-- 2^48 in inequalities, and no inequality where there is no row
pub record IsPartKept {V : Type 0} (R : Semiring V) (N : Numbering V) (n : ℕ) (part : Part V) : Type 0 where
  pub lines : IsPart N part.rows part.printed
  pub normal : All (IsNormal R) part.rows
  pub wide : AreWide n part.rows
  pub small : rows_size R part.rows ≤ greatest_normal
  pub printed_wide : All (IsIn n) part.printed
  pub printed_small : system_size R part.printed ≤ greatest_inv

-- both of its lists are lists in n coordinates
pub record IsPointKept {V Store : Type 0} (R : Semiring V) (N : Numbering V) (n : ℕ) (p : PointPart V Store) : Type 0
  where
    pub rows_width : p.rows.n ≡ n
    pub invs_width : p.invs.n ≡ n
    pub part : IsPartKept R N n (part_of p)

-- nothing is more than the limits, there is a part for each point of its program, and a verdict for each of its asserts
pub record IsKept {V : Type 0} (R : Semiring V) (N : Numbering V) (r : ReportOver V) : Type 0 where
  pub delay : r.delay ≤ most_delay
  pub narrow : r.narrow ≤ most_narrow
  pub passes : r.passes ≤ most_passes
  pub program : IsProgram r.program
  pub parts : All (IsPartKept R N (length r.program.names + 1)) r.parts
  pub points_are : length r.parts ≡ length (points (nameless r.program))
  pub asserts_are : length r.verdicts ≡ length (assert_numbers r.program)

-- what the fields of a report keep: its graph is that of its program
pub record IsSound {V Store : Type 0} (R : Semiring V) (N : Numbering V) (delay narrow passes : ℕ) (program : Named)
    (graph : ControlGraph) (parts : List (PointPart V Store)) (verdicts : List Bool) : Type 0 where
  pub report : IsKept R N (report_of delay narrow passes program parts verdicts)
  pub each : All (IsPointKept R N (length program.names + 1)) parts
  pub graph_is : graph ≡ graph_of (nameless program)
