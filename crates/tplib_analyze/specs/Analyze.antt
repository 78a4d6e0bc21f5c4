-- What the command `analyze` means: the report of the defined family of a program.
use Rattle.std.specs.Prelude.{◌≡◌, ◌≤◌, ◌+◌, ◌*◌, ℕ, List, length}
use Rattle.trop_text.specs.Pieces.{pieces_of}
use Rattle.trop_text.specs.declared.fault.TextErr.TheVariants as errors
use Rattle.prog_theory.specs.Limits.{program_limits}
use Rattle.prog_theory.specs.Named.{Named, nameless}
use Rattle.prog_theory.specs.Heads.{heads}
use Rattle.prog_texts.specs.Words.{program_pieces}
use Rattle.prog_texts.specs.Programs.{IsWholeProgram}
use Rattle.prog_lang.specs.Outcomes.{IsProgramRefusal}
use Rattle.report_texts.specs.Limits.{greatest_entry}
use Rattle.report_texts.specs.Modes.{Mode, ring_of, numbering, is_reversed, rule_of}
use Rattle.report_texts.specs.Reports.{ReportText, said_by, IsInductiveText, IsReportWithin}
use Rattle.report_texts.specs.Texts.{SpellsReport}
use Rattle.report_texts.specs.Printed.{printed_report}
use Rattle.tplib_reply.specs.Meaning.{Meaning, always_yes}
use Rattle.tplib_analyze.specs.Stops.{IsStop}
use Rattle.tplib_analyze.specs.Defined.{IsDefined}
use Rattle.tplib_analyze.specs.Visits.{ArePrintedTrue, AreProvedTrue}

-- The text is that of the report of the program's family. What follows from this stands beside it.
pub record IsAnalyzeText (mode : Mode) (delay narrow : ℕ) (p : Named) (text : List ℕ) : Type 0 where
  pub report : ReportText
  pub printed : text ≡ printed_report report
  pub mode_is : report.mode ≡ mode
  pub delay_is : report.delay ≡ delay
  pub narrow_is : report.narrow ≡ narrow
  pub program_is : report.program ≡ p
  pub defined : IsDefined (ring_of mode) numbering (is_reversed mode) delay narrow p report.passes (said_by report)
  -- the ascent ends, and the report is within the limits of a text
  pub passes : report.passes ≤ length (heads (nameless p)) * (delay + 4098) + 1
  pub within : IsReportWithin greatest_entry report
  -- it is read back
  pub read_back : SpellsReport (pieces_of text) report
  -- it is inductive, so that it is true at each visit of each run
  pub inductive : IsInductiveText report
  pub inequalities : ArePrintedTrue (ring_of mode) numbering (said_by report)
  pub claims : AreProvedTrue (said_by report)

-- The bytes spell a program whose asserts suit the mode; or they have a first fault as one. The analysis stops at its
-- first refused part, or at the first point whose external list stops.
abbrev pub analyze_meaning : Mode → ℕ → ℕ → Meaning Named
analyze_meaning mode delay narrow = record {
  spells = λ bytes p. IsWholeProgram program_limits (rule_of mode) (program_pieces bytes) p;
  faulty = λ bytes fault. IsProgramRefusal (rule_of mode) bytes (errors.Fault fault);
  stops = IsStop (ring_of mode) numbering (is_reversed mode) delay narrow;
  answers = always_yes (IsAnalyzeText mode delay narrow);
}
