-- Whole reports by the parts in which they are read.
use Rattle.std.specs.Prelude.{List, map}
use Rattle.trop_theory.specs.Semiring.{Semiring}
use Rattle.trop_theory.specs.Numbers.{Numbering}
use Rattle.trop_grammar.specs.Reading.{Reading, ◌>>=◌, gives, token_at}
use Rattle.trop_text.specs.Pieces.{Piece}
use Rattle.trop_text.specs.declared.fault.FaultKind.{FaultKind}
use Rattle.trop_text.specs.declared.fault.FaultKind.TheVariants.{Syntax}
use Rattle.trop_reading.specs.Words.{line_end, input_end}
use Rattle.trop_spelling.specs.declared.ring_kind.RingKind.{RingKind}
use Rattle.prog_theory.specs.Graph.{points}
use Rattle.prog_theory.specs.Named.{Named, nameless}
use Rattle.report_texts.specs.Modes.{rule_of}
use Rattle.report_texts.specs.Lines.{Block, Body, Judged}
use Rattle.report_texts.specs.Heads.{Head, version_at, head_at}
use Rattle.report_texts.specs.ProgramParts.{program_part_at}
use Rattle.report_texts.specs.Reports.{assert_numbers}
use Rattle.report_texts.specs.Bodies.{body_at}
use Rattle.report_value.specs.Views.{ReportOver}

-- the head and the program, with the end of its line
abbrev pub opening_at : List Piece → Reading Piece FaultKind (Head × Named)
opening_at =
    version_at >>= λ v. head_at v >>= λ h. program_part_at (rule_of h.mode) >>= λ p. token_at Syntax line_end >>= λ u.
    gives (h, p)

-- the lines behind the program, up to the end of the input
abbrev pub lines_at : {V : Type 0} → RingKind → Semiring V → Numbering V → Named → List Piece →
    Reading Piece FaultKind (Body V)
lines_at kind R N p =
    body_at kind R N p.names (points (nameless p)) (assert_numbers p) >>= λ body. token_at Syntax input_end >>= λ w.
    gives body

-- what they make
abbrev pub report_over : {V : Type 0} → Head → Named → Body V → ReportOver V
report_over h p body = record {
  delay = h.delay;
  narrow = h.narrow;
  passes = h.passes;
  program = p;
  parts = map (λ (b : Block _). b.part) body.blocks;
  verdicts = map (λ (j : Judged). j.proved) body.judged;
}
