-- The one text by which a report is printed, in version 2.
use Rattle.std.specs.Prelude.{ℕ, ℤ, Bool, true, false, List, [], ◌∷◌, ◌++◌, codes, decimal, Option, Some, None}
use Rattle.trop_spelling.specs.declared.ring_kind.RingKind.{RingKind}
use Rattle.trop_spelling.specs.Printed.{numbers, printed_row, printed_inequality}
use Rattle.prog_theory.specs.Graph.{Point, Statement, Inner, Exit, points}
use Rattle.prog_theory.specs.Named.{nameless}
use Rattle.prog_texts.specs.Printed.{printed}
use Rattle.cone_reports.specs.Reports.{Part}
use Rattle.report_texts.specs.Modes.{Mode, Element, kind_of, numbering, mode_word}
use Rattle.report_texts.specs.Lines.{Line, At, Unreachable, Row, Inv, Asserted, Last, Block, Body, Judged, lines_of}
use Rattle.report_texts.specs.Reports.{ReportText, assert_numbers}

-- ---- a line behind the program

-- a row in normal form: a point where its entry 0 is finite, else a ray, with its other entries
abbrev pub row_text : RingKind → List (Option ℤ) → List ℕ
row_text kind [] = []
row_text kind (None ∷ entries) = codes "ray " ++ printed_row kind entries
row_text kind (Some c ∷ entries) = codes "point " ++ printed_row kind entries

abbrev pub label_text : Point → List ℕ
label_text (Statement k) = codes "statement " ++ decimal k
label_text Inner = codes "inner"
label_text Exit = codes "exit"

abbrev pub verdict_text : Bool → List ℕ
verdict_text true = codes "proved"
verdict_text false = codes "unknown"

abbrev pub line_text : Mode → List (List ℕ) → Line Element → List ℕ
line_text mode names (At n p) = codes "at " ++ (decimal n ++ (codes " " ++ label_text p))
line_text mode names Unreachable = codes "unreachable"
line_text mode names (Row x) = row_text (kind_of mode) (numbers numbering x)
line_text mode names (Inv i) = codes "inv " ++ printed_inequality (kind_of mode) numbering names i
line_text mode names (Asserted n b) = codes "assert " ++ (decimal n ++ (codes " " ++ verdict_text b))
line_text mode names Last = codes "end"

-- each on a line of its own
abbrev pub lines_text : {A : Type 0} → (A → List ℕ) → List A → List ℕ
lines_text text [] = []
lines_text text (x ∷ xs) = text x ++ (codes "\n" ++ lines_text text xs)

-- ---- the body of a report

-- each point with its part
abbrev pub blocks_of : List Point → List (Part Element) → List (Block Element)
blocks_of [] parts = []
blocks_of (p ∷ ps) [] = []
blocks_of (p ∷ ps) (x ∷ parts) = record { point = p; part = x } ∷ blocks_of ps parts

-- each assert with its verdict
abbrev pub judged_of : List ℕ → List Bool → List Judged
judged_of [] verdicts = []
judged_of (n ∷ ns) [] = []
judged_of (n ∷ ns) (b ∷ verdicts) = record { number = n; proved = b } ∷ judged_of ns verdicts

abbrev pub body_of : ReportText → Body Element
body_of r = record {
  blocks = blocks_of (points (nameless r.program)) r.parts;
  judged = judged_of (assert_numbers r.program) r.verdicts;
}

-- ---- the whole

abbrev pub word_line : List ℕ → List ℕ → List ℕ
word_line word text = word ++ (codes " " ++ (text ++ codes "\n"))

abbrev pub printed_head : ReportText → List ℕ
printed_head r =
    word_line (codes "report") (decimal 2) ++ (word_line (codes "mode") (mode_word r.mode)
    ++ (word_line (codes "delay") (decimal r.delay) ++ (word_line (codes "narrow") (decimal r.narrow)
    ++ (word_line (codes "passes") (decimal r.passes) ++ codes "program\n"))))

abbrev pub printed_report : ReportText → List ℕ
printed_report r =
    printed_head r ++ (printed r.program ++ (codes "end\n"
    ++ lines_text (line_text r.mode r.program.names) (lines_of (body_of r))))
