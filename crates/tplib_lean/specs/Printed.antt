-- The one text by which a lean list is printed.
use Rattle.std.specs.Prelude.{ℕ, List, [], ◌∷◌, ◌++◌, codes}
use Rattle.trop_theory.specs.Numbers.{Numbering}
use Rattle.trop_theory.specs.Inequalities.{Inequality}
use Rattle.trop_spelling.specs.declared.ring_kind.RingKind.{RingKind}
use Rattle.trop_spelling.specs.Printed.{numbers, printed_row, printed_inequality}
use Rattle.trop_files.specs.PrintedFiles.{printed_header}

-- the comment that names a row at which an inequality fails
abbrev pub fails_comment : {V : Type 0} → RingKind → Numbering V → List V → List ℕ
fails_comment kind N row = codes "# fails at " ++ printed_row kind (numbers N row)

-- each inequality on a line, and on the next one the comment with its row
abbrev pub lean_lines : {V : Type 0} → RingKind → Numbering V → List (List ℕ) → List (Inequality V) → List (List V) →
    List ℕ
lean_lines kind N names (p ∷ kept) (row ∷ rows) =
    (printed_inequality kind N names p ++ codes "\n")
    ++ ((fails_comment kind N row ++ codes "\n") ++ lean_lines kind N names kept rows)
lean_lines kind N names [] rows = []
lean_lines kind N names (p ∷ kept) [] = []

-- the file of the inequalities, with such a comment behind each
abbrev pub printed_lean : {V : Type 0} → RingKind → Numbering V → List (List ℕ) → List (Inequality V) →
    List (List V) → List ℕ
printed_lean kind N names kept rows = printed_header (codes "ineqs") kind names ++ lean_lines kind N names kept rows
