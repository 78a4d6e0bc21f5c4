-- The report of a family in a mode, as text.
use Rattle.std.proofs.Common.{◌≡◌, ◌≤◌, ◌+◌, ℕ, suc, List, [], ◌∷◌, length, true, refl, arith}
use Rattle.std.specs.Prelude.{All, Result, Ok, Err, IfErr}
use Rattle.trop_theory.specs.Vectors.{rows_size}
use Rattle.trop_text.specs.Pieces.{pieces_of}
use Rattle.prog_theory.specs.Limits.{program_limits}
use Rattle.prog_theory.specs.Named.{Named}
use Rattle.prog_texts.specs.Words.{program_pieces}
use Rattle.prog_texts.specs.Programs.{IsWholeProgram}
use Rattle.cone_reports.specs.Reports.{Part}
use Rattle.report_texts.specs.Limits.{greatest_entry}
use Rattle.report_texts.specs.Lines.{Each}
use Rattle.report_texts.specs.Modes.{Mode, Element, ring_of, numbering, is_reversed, rule_of}
use Rattle.report_texts.specs.Reports.{IsPartWithin, IsReportWithin}
use Rattle.report_texts.specs.Texts.{SpellsReport}
use Rattle.report_texts.specs.Printed.{printed_report}
use Rattle.report_value.specs.Views.{ReportOver}
use Rattle.report_value.specs.Texts.{in_mode}
use Rattle.report_value.specs.Kept.{IsPartKept}
use Rattle.tplib_reply.specs.Meaning.{IsAnswered, IsRefused}
use Rattle.tplib_reply.specs.declared.refusal.Refusal.{Refusal}
use Rattle.tplib_reply.specs.declared.refusal.Refusal.TheVariants.{Text, Limit, Range, NoMemory}
use Rattle.tplib_analyze.specs.Made.{IsReportMade, IsReportRefusal}
use Rattle.tplib_analyze.specs.Analyze.{IsAnalyzeText, analyze_meaning}

module _ (mode : Mode) (n : ℕ) where
  -- parts that a report keeps, with small rows, may stand in a text
  parts_within : (parts : List (Part Element)) → All (IsPartKept (ring_of mode) numbering n) parts →
      All (λ (x : Part Element). rows_size (ring_of mode) x.rows ≤ greatest_entry) parts →
      Each (IsPartWithin mode greatest_entry n) parts
  parts_within [] kept small = tt
  parts_within (x ∷ parts) kept small =
      let h = kept 0 x (omega arith) in (
        record {
          lines = h.lines;
          normal = h.normal;
          wide = h.wide;
          small = small 0 x (omega arith);
          printed_wide = h.printed_wide;
          printed_small = h.printed_small;
        },
        parts_within parts (λ k d l. kept (suc k) d (omega arith)) (λ k d l. small (suc k) d (omega arith)),
      )

module _ (mode : Mode) (delay narrow : ℕ) (p : Named) where
  pub report_within : (r : ReportOver Element) → IsReportMade (ring_of mode) numbering (is_reversed mode) delay narrow
      p r →
      IsReportWithin greatest_entry (in_mode mode r)
  report_within r h = record {
    delay = h.kept.delay;
    narrow = h.kept.narrow;
    passes = h.kept.passes;
    program = h.kept.program.within;
    parts = parts_within mode (length r.program.names + 1) r.parts h.kept.parts h.small;
    points_are = h.kept.points_are;
    asserts_are = h.kept.asserts_are;
  }

  report_text : (r : ReportOver Element) (text : List ℕ) →
      IsReportMade (ring_of mode) numbering (is_reversed mode) delay narrow p r →
      text ≡ printed_report (in_mode mode r) → SpellsReport (pieces_of text) (in_mode mode r) →
      IsAnalyzeText mode delay narrow p text
  report_text r text h is back = record {
    report = in_mode mode r;
    printed = is;
    mode_is = refl;
    delay_is = h.delay_is;
    narrow_is = h.narrow_is;
    program_is = h.program_is;
    defined = h.defined;
    passes = h.passes;
    within = report_within r h;
    read_back = back;
    inductive = h.inductive;
    inequalities = h.inequalities;
    claims = h.claims;
  }

  module _ (bytes : List ℕ) (spelled : IsWholeProgram program_limits (rule_of mode) (program_pieces bytes) p) where
    pub analyze_answered : (r : ReportOver Element) (text : List ℕ) →
        IsReportMade (ring_of mode) numbering (is_reversed mode) delay narrow p r →
        text ≡ printed_report (in_mode mode r) → SpellsReport (pieces_of text) (in_mode mode r) →
        IsAnswered (analyze_meaning mode delay narrow) bytes true text
    analyze_answered r text h is back = record {
      said = p;
      spelled = spelled;
      unstopped = h.unstopped;
      answer = report_text r text h is back;
    }

    pub refused : (refusal : Refusal) →
        IsReportRefusal (ring_of mode) numbering (is_reversed mode) delay narrow p refusal →
        IsRefused (analyze_meaning mode delay narrow) bytes refusal
    refused (Limit stop) h = record { said = p; spelled = spelled; stops = h }
    refused (Range stop) h = record { said = p; spelled = spelled; stops = h }
    refused (Text fault) h = absurd h
    refused NoMemory h = tt

    pub analyze_refused : {X : Type 0} (r : Result X Refusal) →
        IfErr r (IsReportRefusal (ring_of mode) numbering (is_reversed mode) delay narrow p) →
        IfErr r (IsRefused (analyze_meaning mode delay narrow) bytes)
    analyze_refused (Ok x) h = tt
    analyze_refused (Err refusal) h = refused refusal h
