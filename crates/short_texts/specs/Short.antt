-- The one text by which a short report is printed.
use Rattle.std.specs.Prelude.{ℕ, suc, Bool, List, [], ◌∷◌, ◌++◌, codes, decimal}
use Rattle.prog_theory.specs.Graph.{Point, points}
use Rattle.prog_theory.specs.Named.{Named, nameless}
use Rattle.prog_texts.specs.Printed.{printed}
use Rattle.report_texts.specs.Reports.{assert_numbers}
use Rattle.report_texts.specs.Printed.{word_line}
use Rattle.report_lines.specs.Texts.{point_line, verdicts_text}

-- The word that it begins with, the words of the analysis, the number of its passes, the program, for each of its points
-- the lines behind the `at` line, and for each of its asserts whether its claim is proved.
pub record Short : Type 0 where
  pub word : List ℕ
  pub delay : ℕ
  pub narrow : ℕ
  pub passes : ℕ
  pub program : Named
  pub blocks : List (List ℕ)
  pub verdicts : List Bool

-- the lines before the program
abbrev pub short_head : List ℕ → ℕ → ℕ → ℕ → List ℕ
short_head word delay narrow passes =
    word_line word (decimal 1) ++ (word_line (codes "delay") (decimal delay)
    ++ (word_line (codes "narrow") (decimal narrow) ++ (word_line (codes "passes") (decimal passes)
    ++ codes "program\n")))

-- the blocks of points, of which the first has the number n
abbrev pub short_blocks : ℕ → List Point → List (List ℕ) → List ℕ
short_blocks n [] blocks = []
short_blocks n (p ∷ ps) [] = []
short_blocks n (p ∷ ps) (block ∷ blocks) = point_line n p ++ (block ++ short_blocks (suc n) ps blocks)

abbrev pub short_text : Short → List ℕ
short_text r =
    short_head r.word r.delay r.narrow r.passes ++ (printed r.program ++ (codes "end\n"
    ++ (short_blocks 0 (points (nameless r.program)) r.blocks
    ++ (verdicts_text (assert_numbers r.program) r.verdicts ++ codes "end\n"))))
