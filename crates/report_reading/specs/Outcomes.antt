-- Why a report is not read.
use Rattle.std.specs.Prelude.{◌≡◌, ℕ, List, Err}
use Rattle.trop_text.specs.Pieces.{Piece, pieces_of}
use Rattle.trop_text.specs.Places.{fault_before}
use Rattle.trop_text.specs.declared.fault.Fault.{Fault}
use Rattle.trop_text.specs.declared.fault.FaultKind.{FaultKind}
use Rattle.trop_text.specs.declared.fault.TextErr.{TextErr}
use Rattle.trop_text.specs.declared.fault.TextErr.TheVariants as errors
use Rattle.report_texts.specs.Faults.{IsReportFault}
use Rattle.report_texts.specs.Reports.{ReportText}
use Rattle.report_texts.specs.Texts.{SpellsReport, report_answer}

-- the first fault of the bytes at its place, with its cause; then they spell no report
pub record IsFirstReportFault (bytes : List ℕ) (f : Fault) : Type 0 where
  pub kind : FaultKind
  pub rest : List Piece
  pub is : f ≡ fault_before bytes kind rest
  pub first : IsReportFault (pieces_of bytes) kind rest
  pub answered : report_answer bytes ≡ Err f
  pub spelled : (r : ReportText) → SpellsReport (pieces_of bytes) r → ⊥

-- why bytes are refused; want of memory is free
abbrev pub IsReportRefusal : List ℕ → TextErr → Type 0
IsReportRefusal bytes errors.NoMemory = Unit {0}
IsReportRefusal bytes (errors.Fault f) = IsFirstReportFault bytes f
