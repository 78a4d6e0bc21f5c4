-- The value of a report, and what it says of its program.
use Rattle.std.specs.Prelude.{◌≡◌, ◌≤◌, ◌+◌, ℕ, Bool, List, length, map, All}
use Rattle.trop_theory.specs.Vectors.{rows_size, AreWide}
use Rattle.trop_theory.specs.Normal.{IsNormal}
use Rattle.trop_theory.specs.Inequalities.{IsIn, system_size}
use Rattle.prog_theory.specs.Limits.{program_limits}
use Rattle.prog_theory.specs.Named.{Named, nameless}
use Rattle.prog_theory.specs.Within.{IsWithin}
use Rattle.prog_theory.specs.Graph.{points}
use Rattle.cone_reports.specs.Asserts.{Assertion, asserts}
use Rattle.cone_reports.specs.Reports.{Part, Report}
use Rattle.cone_reports.specs.Inductive.{IsInductive}
use Rattle.report_texts.specs.Limits.{most_delay, most_narrow, most_passes, greatest_inv}
use Rattle.report_texts.specs.Modes.{Mode, Element, ring_of, numbering, is_reversed}
use Rattle.report_texts.specs.Lines.{Each, IsPart}

-- A report: the words of the analysis, the number of its passes, the program, for each of its points rows and printed
-- inequalities, and for each of its asserts whether its claim is proved.
pub record ReportText : Type 0 where
  pub mode : Mode
  pub delay : ℕ
  pub narrow : ℕ
  pub passes : ℕ
  pub program : Named
  pub parts : List (Part Element)
  pub verdicts : List Bool

-- what it says of its program
abbrev pub said_by : ReportText → Report Element
said_by r = record { program = nameless r.program; parts = r.parts; verdicts = r.verdicts }

-- it is inductive in the semiring of its mode
abbrev pub IsInductiveText : ReportText → Type 0
IsInductiveText r = IsInductive (ring_of r.mode) numbering (is_reversed r.mode) (said_by r)

-- the numbers of the statements that are asserts
abbrev pub assert_numbers : Named → List ℕ
assert_numbers p = map (λ (a : Assertion). a.number) (asserts (nameless p))

-- what a part keeps: rows of at most this size in normal form, with n coordinates, and inequalities of n coordinates
pub record IsPartWithin (mode : Mode) (size n : ℕ) (part : Part Element) : Type 0 where
  pub lines : IsPart numbering part.rows part.printed
  pub normal : All (IsNormal (ring_of mode)) part.rows
  pub wide : AreWide n part.rows
  pub small : rows_size (ring_of mode) part.rows ≤ size
  pub printed_wide : All (IsIn n) part.printed
  pub printed_small : system_size (ring_of mode) part.printed ≤ greatest_inv

-- What a report keeps: nothing is more than the limits, there is a part for each point of its program, and a verdict
-- for each of its asserts. Rows are of at most this size; where that is the size of numbers in a text, the report can
-- be printed.
pub record IsReportWithin (size : ℕ) (r : ReportText) : Type 0 where
  pub delay : r.delay ≤ most_delay
  pub narrow : r.narrow ≤ most_narrow
  pub passes : r.passes ≤ most_passes
  pub program : IsWithin program_limits r.program
  pub parts : Each (IsPartWithin r.mode size (length r.program.names + 1)) r.parts
  pub points_are : length r.parts ≡ length (points (nameless r.program))
  pub asserts_are : length r.verdicts ≡ length (assert_numbers r.program)
