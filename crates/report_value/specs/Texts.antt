-- What a report stands for in the theory of their texts.
use Rattle.report_texts.specs.Modes.{Mode, InMax, InMin, Element}
use Rattle.report_texts.specs.Reports.{ReportText}
use Rattle.report_value.specs.Views.{ReportOver}
use Rattle.report_value.specs.declared.report.AnyReport.{AnyReport}
use Rattle.report_value.specs.declared.report.AnyReport.TheVariants as reports

-- as the value of a text in a mode
abbrev pub in_mode : Mode → ReportOver Element → ReportText
in_mode mode r = record {
  mode = mode;
  delay = r.delay;
  narrow = r.narrow;
  passes = r.passes;
  program = r.program;
  parts = r.parts;
  verdicts = r.verdicts;
}

abbrev pub text_of : AnyReport → ReportText
text_of (reports.Max r) = in_mode InMax r
text_of (reports.Min r) = in_mode InMin r
