-- The first line of a point's block, and the lines of verdicts.
use Rattle.std.specs.Prelude.{ℕ, Bool, List, [], ◌∷◌, ◌++◌, codes, decimal}
use Rattle.prog_theory.specs.Graph.{Point}
use Rattle.report_texts.specs.Printed.{label_text, verdict_text}

-- the first line of the block of the point with the number n
abbrev pub point_line : ℕ → Point → List ℕ
point_line n p = codes "at " ++ (decimal n ++ (codes " " ++ (label_text p ++ codes "\n")))

-- the line of the verdict on the assert with the number n
abbrev pub verdict_line : ℕ → Bool → List ℕ
verdict_line n b = codes "assert " ++ (decimal n ++ (codes " " ++ (verdict_text b ++ codes "\n")))

-- the lines of verdicts on the asserts with these numbers
abbrev pub verdicts_text : List ℕ → List Bool → List ℕ
verdicts_text [] verdicts = []
verdicts_text (n ∷ ns) [] = []
verdicts_text (n ∷ ns) (b ∷ verdicts) = verdict_line n b ++ verdicts_text ns verdicts
