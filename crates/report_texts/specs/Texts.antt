-- Whole reports: what they spell, and what a text comes to.
use Rattle.std.specs.Prelude.{ℕ, List, map, Result, Ok, Err}
use Rattle.trop_grammar.specs.Reading.{Reading, ◌>>=◌, gives, token_at}
use Rattle.trop_grammar.specs.Grammar.{One, Empty, Then}
use Rattle.trop_grammar.specs.Lists.{Passes}
use Rattle.trop_text.specs.Pieces.{Piece, pieces_of}
use Rattle.trop_text.specs.Places.{fault_before}
use Rattle.trop_text.specs.declared.fault.Fault.{Fault}
use Rattle.trop_text.specs.declared.fault.FaultKind.{FaultKind}
use Rattle.trop_text.specs.declared.fault.FaultKind.TheVariants.{Syntax}
use Rattle.trop_reading.specs.Words.{line_end, input_end}
use Rattle.prog_theory.specs.Graph.{points}
use Rattle.prog_theory.specs.Named.{Named, nameless}
use Rattle.report_texts.specs.Modes.{Mode, Element, kind_of, ring_of, numbering, rule_of}
use Rattle.report_texts.specs.Lines.{Block, Body, Judged}
use Rattle.report_texts.specs.Reports.{ReportText, assert_numbers}
use Rattle.report_texts.specs.Heads.{Head, IsVersion, IsHead, version_at, head_at}
use Rattle.report_texts.specs.ProgramParts.{IsProgramPart, program_part_at}
use Rattle.report_texts.specs.Bodies.{IsBody, body_at}

abbrev pub report : Head → Named → Body Element → ReportText
report h p body = record {
  mode = h.mode;
  delay = h.delay;
  narrow = h.narrow;
  passes = h.passes;
  program = p;
  parts = map (λ (b : Block Element). b.part) body.blocks;
  verdicts = map (λ (j : Judged). j.proved) body.judged;
}

-- ---- grammar

-- the lines behind a program, in the semiring of the mode
abbrev pub IsBodyFor : Mode → Named → List Piece → Body Element → Type 0
IsBodyFor mode p = IsBody (kind_of mode) (ring_of mode) numbering p.names (points (nameless p)) (assert_numbers p)

-- the head, the program up to `end`, the end of that line, the lines of the body, and the end of the input
abbrev pub SpellsReport : List Piece → ReportText → Type 0
SpellsReport =
    Then IsVersion (λ v. Then (IsHead v) (λ h. Then (IsProgramPart (rule_of h.mode))
    (λ p. Then (One (Passes line_end)) (λ u. Then (IsBodyFor h.mode p)
    (λ body. Then (One (Passes input_end)) (λ w. Empty (report h p body)))))))

-- ---- reading

abbrev pub body_for_at : Mode → Named → List Piece → Reading Piece FaultKind (Body Element)
body_for_at mode p = body_at (kind_of mode) (ring_of mode) numbering p.names (points (nameless p)) (assert_numbers p)

unfoldable pub report_at : List Piece → Reading Piece FaultKind ReportText
report_at =
    version_at >>= λ v. head_at v >>= λ h. program_part_at (rule_of h.mode) >>= λ p. token_at Syntax line_end >>= λ u.
    body_for_at h.mode p >>= λ body. token_at Syntax input_end >>= λ w. gives (report h p body)

abbrev pub answer : List ℕ → Reading Piece FaultKind ReportText → Result ReportText Fault
answer bytes (Ok x) = Ok x.0
answer bytes (Err miss) = Err (fault_before bytes miss.what miss.rest)

-- the value of a text, or its first fault with its place
abbrev pub report_answer : List ℕ → Result ReportText Fault
report_answer bytes = answer bytes (report_at (pieces_of bytes))
