-- The bytes of the parts of a report are those of the one text by which it is printed.
-- Index: printed_is.
use Rattle.std.proofs.Common.{◌≡◌, ℕ, suc, Bool, List, [], ◌∷◌, ◌++◌, map, codes, decimal, refl, sym, ap, ap₂, ◌∙◌, append_assoc}
use Rattle.trop_theory.specs.Inequalities.{Inequality}
use Rattle.trop_spelling.specs.Printed.{numbers, printed_inequality}
use Rattle.prog_theory.specs.Graph.{Point, points}
use Rattle.prog_theory.specs.Named.{nameless}
use Rattle.prog_texts.specs.Printed.{printed}
use Rattle.cone_reports.specs.Reports.{Part}
use Rattle.report_texts.specs.Modes.{Mode, InMax, InMin, Element, kind_of, numbering}
use Rattle.report_texts.specs.Lines.{Line, Row, Inv, Last, part_lines, blocks_lines, judged_line, lines_of}
use Rattle.report_texts.specs.Reports.{assert_numbers}
use Rattle.report_texts.specs.Printed.{row_text, label_text, verdict_text, line_text, lines_text, blocks_of, judged_of, body_of, printed_head, printed_report}
use Rattle.report_value.specs.Texts.{in_mode}
use Rattle.report_value.specs.Views.{ReportOver}
use Rattle.report_lines.specs.Texts.{point_line, verdict_line, verdicts_text}
use Rattle.report_print.specs.Texts.{head_text, rows_text, inequalities_text, part_text, blocks_text, report_text}

-- ---- lists of bytes

-- the last of four lists, with what stands behind it
seam : (a b c d e rest : List ℕ) → (a ++ (b ++ (c ++ d))) ++ (e ++ rest) ≡ (a ++ (b ++ (c ++ (d ++ e)))) ++ rest
seam a b c d e rest =
    sym (append_assoc (a ++ (b ++ (c ++ d))) e rest)
    ∙ ap (λ (z : List ℕ). z ++ rest) (append_assoc a (b ++ (c ++ d)) e
    ∙ ap (λ (z : List ℕ). a ++ z) (append_assoc b (c ++ d) e ∙ ap (λ (z : List ℕ). b ++ z) (append_assoc c d e)))

lines_text-append : {A : Type 0} (text : A → List ℕ) (xs ys : List A) →
    lines_text text (xs ++ ys) ≡ lines_text text xs ++ lines_text text ys
lines_text-append text [] ys = refl
lines_text-append text (x ∷ xs) ys =
    ap (λ (z : List ℕ). text x ++ (codes "\n" ++ z)) (lines_text-append text xs ys)
    ∙ sym (append_assoc (text x) (codes "\n" ++ lines_text text xs) (lines_text text ys))

-- ---- the lines of a report

module _ (mode : Mode) (names : List (List ℕ)) where
  abbrev T : List (Line Element) → List ℕ
  T xs = lines_text (line_text mode names) xs

  rows_are : (rows : List (List Element)) → T (map Row rows) ≡ rows_text (kind_of mode) numbering rows
  rows_are [] = refl
  rows_are (x ∷ rows) =
      ap (λ (z : List ℕ). row_text (kind_of mode) (numbers numbering x) ++ (codes "\n" ++ z)) (rows_are rows)

  inequalities_are : (invs : List (Inequality Element)) →
      T (map Inv invs) ≡ inequalities_text (kind_of mode) numbering names invs
  inequalities_are [] = refl
  inequalities_are (i ∷ invs) =
      ap (λ (z : List ℕ). (codes "inv " ++ printed_inequality (kind_of mode) numbering names i) ++ (codes "\n" ++ z))
      (inequalities_are invs)

  part_is : (rows : List (List Element)) (invs : List (Inequality Element)) →
      T (part_lines rows invs) ≡ part_text (kind_of mode) numbering names rows invs
  part_is [] invs = refl
  part_is (x ∷ rows) invs =
      lines_text-append (line_text mode names) (map Row (x ∷ rows)) (map Inv invs)
      ∙ ap₂ (λ (y z : List ℕ). y ++ z) (rows_are (x ∷ rows)) (inequalities_are invs)

  blocks_are : (k : ℕ) (ps : List Point) (parts : List (Part Element)) →
      T (blocks_lines k (blocks_of ps parts)) ≡ blocks_text (kind_of mode) numbering names k ps parts
  blocks_are k [] parts = refl
  blocks_are k (p ∷ ps) [] = refl
  blocks_are k (p ∷ ps) (x ∷ parts) =
      seam (codes "at ") (decimal k) (codes " ") (label_text p) (codes "\n")
      (T (part_lines x.rows x.printed ++ blocks_lines (suc k) (blocks_of ps parts)))
      ∙ ap (λ (z : List ℕ). point_line k p ++ z)
      (lines_text-append (line_text mode names) (part_lines x.rows x.printed)
      (blocks_lines (suc k) (blocks_of ps parts))
      ∙ ap₂ (λ (y z : List ℕ). y ++ z) (part_is x.rows x.printed) (blocks_are (suc k) ps parts))

  verdicts_are : (ns : List ℕ) (verdicts : List Bool) →
      T (map judged_line (judged_of ns verdicts) ++ Last ∷ []) ≡ verdicts_text ns verdicts ++ codes "end\n"
  verdicts_are [] verdicts = refl
  verdicts_are (n ∷ ns) [] = refl
  verdicts_are (n ∷ ns) (b ∷ verdicts) =
      seam (codes "assert ") (decimal n) (codes " ") (verdict_text b) (codes "\n")
      (T (map judged_line (judged_of ns verdicts) ++ Last ∷ []))
      ∙ ap (λ (z : List ℕ). verdict_line n b ++ z) (verdicts_are ns verdicts)
      ∙ sym (append_assoc (verdict_line n b) (verdicts_text ns verdicts) (codes "end\n"))

-- ---- the whole

-- the printed text of a report over the semiring of its mode
pub printed_is : (mode : Mode) (r : ReportOver Element) →
    printed_report (in_mode mode r) ≡ report_text (kind_of mode) numbering r
printed_is mode r =
    let names = r.program.names in
    let body = body_of (in_mode mode r) in
    let lines : lines_text (line_text mode names) (lines_of body) ≡
    blocks_text (kind_of mode) numbering names 0 (points (nameless r.program)) r.parts
    ++ (verdicts_text (assert_numbers r.program) r.verdicts ++ codes "end\n") =
    lines_text-append (line_text mode names) (blocks_lines 0 body.blocks) (map judged_line body.judged ++ Last ∷ [])
    ∙ ap₂ (λ (y z : List ℕ). y ++ z) (blocks_are mode names 0 (points (nameless r.program)) r.parts)
    (verdicts_are mode names (assert_numbers r.program) r.verdicts) in
    ap₂ (λ (y z : List ℕ). y ++ (printed r.program ++ (codes "end\n" ++ z))) (head_is mode r) lines
  where
    head_is : (mode : Mode) (r : ReportOver Element) →
        printed_head (in_mode mode r) ≡ head_text (kind_of mode) r.delay r.narrow r.passes
    head_is InMax r = refl
    head_is InMin r = refl
