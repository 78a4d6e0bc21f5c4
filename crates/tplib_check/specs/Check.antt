-- What the command `check` means.
use Rattle.trop_text.specs.Pieces.{pieces_of}
use Rattle.trop_text.specs.declared.fault.TextErr.TheVariants as errors
use Rattle.report_texts.specs.Reports.{ReportText}
use Rattle.report_texts.specs.Texts.{SpellsReport}
use Rattle.report_reading.specs.Outcomes.{IsReportRefusal}
use Rattle.tplib_reply.specs.Meaning.{Meaning, never}
use Rattle.tplib_check.specs.Answers.{IsCheckAnswer}

-- The bytes spell a report; or they have a first fault as one. Nothing stops the check.
abbrev pub check_meaning : Meaning ReportText
check_meaning = record {
  spells = λ bytes r. SpellsReport (pieces_of bytes) r;
  faulty = λ bytes fault. IsReportRefusal bytes (errors.Fault fault);
  stops = never;
  answers = IsCheckAnswer;
}
