-- The bytes of each part of a printed report, over any semiring. They are those of the one text by which a report is
-- printed: `proofs/Parts` shows it, part by part.
use Rattle.std.specs.Prelude.{ℕ, suc, List, [], ◌∷◌, ◌++◌, codes, decimal}
use Rattle.trop_theory.specs.Numbers.{Numbering}
use Rattle.trop_theory.specs.Inequalities.{Inequality}
use Rattle.trop_spelling.specs.declared.ring_kind.RingKind.{RingKind}
use Rattle.trop_spelling.specs.Spelling.{ring_word}
use Rattle.trop_spelling.specs.Printed.{numbers, printed_inequality}
use Rattle.prog_theory.specs.Graph.{Point, points}
use Rattle.prog_theory.specs.Named.{nameless}
use Rattle.prog_texts.specs.Printed.{printed}
use Rattle.cone_reports.specs.Reports.{Part}
use Rattle.report_texts.specs.Printed.{row_text, lines_text, word_line}
use Rattle.report_texts.specs.Reports.{assert_numbers}
use Rattle.report_value.specs.Views.{ReportOver}
use Rattle.report_lines.specs.Texts.{point_line, verdicts_text}

-- the lines before the program
abbrev pub head_text : RingKind → ℕ → ℕ → ℕ → List ℕ
head_text kind delay narrow passes =
    word_line (codes "report") (decimal 2) ++ (word_line (codes "mode") (ring_word kind)
    ++ (word_line (codes "delay") (decimal delay) ++ (word_line (codes "narrow") (decimal narrow)
    ++ (word_line (codes "passes") (decimal passes) ++ codes "program\n"))))

-- the line of each row, and of each inequality
abbrev pub rows_text : {V : Type 0} → RingKind → Numbering V → List (List V) → List ℕ
rows_text kind N rows = lines_text (λ x. row_text kind (numbers N x)) rows

abbrev pub inequalities_text : {V : Type 0} → RingKind → Numbering V → List (List ℕ) → List (Inequality V) → List ℕ
inequalities_text kind N names invs = lines_text (λ i. codes "inv " ++ printed_inequality kind N names i) invs

-- what stands behind the first line of a block
abbrev pub part_text : {V : Type 0} → RingKind → Numbering V → List (List ℕ) → List (List V) → List (Inequality V) →
    List ℕ
part_text kind N names [] invs = codes "unreachable\n"
part_text kind N names (x ∷ rows) invs = rows_text kind N (x ∷ rows) ++ inequalities_text kind N names invs

-- the blocks of points, of which the first one has the number n
abbrev pub blocks_text : {V : Type 0} → RingKind → Numbering V → List (List ℕ) → ℕ → List Point → List (Part V) →
    List ℕ
blocks_text kind N names n [] parts = []
blocks_text kind N names n (p ∷ ps) [] = []
blocks_text kind N names n (p ∷ ps) (x ∷ parts) =
    point_line n p ++ (part_text kind N names x.rows x.printed ++ blocks_text kind N names (suc n) ps parts)

-- the whole
abbrev pub report_text : {V : Type 0} → RingKind → Numbering V → ReportOver V → List ℕ
report_text kind N r =
    head_text kind r.delay r.narrow r.passes ++ (printed r.program ++ (codes "end\n"
    ++ (blocks_text kind N r.program.names 0 (points (nameless r.program)) r.parts
    ++ (verdicts_text (assert_numbers r.program) r.verdicts ++ codes "end\n"))))
