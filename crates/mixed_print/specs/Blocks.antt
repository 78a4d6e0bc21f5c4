-- The text of a point's block, behind its first line.
use Rattle.std.specs.Prelude.{ℤ, ℕ, List, [], ◌∷◌, ◌++◌, codes, Option}
use Rattle.trop_theory.specs.Inequalities.{Inequality}
use Rattle.trop_theory.specs.MaxPlus.{max_numbering}
use Rattle.trop_spelling.specs.declared.ring_kind.RingKind.TheVariants.{Max as MaxKind}
use Rattle.trop_spelling.specs.Printed.{numbers, printed_inequality}
use Rattle.cone_reports.specs.Reports.{Part}
use Rattle.report_texts.specs.Printed.{row_text, lines_text}
use Rattle.mixed_print.specs.Names.{twin_names}

-- a row in normal form, with an entry for each variable and then one for the opposite of each
abbrev pub row_line : List (Option ℤ) → List ℕ
row_line x = row_text MaxKind (numbers max_numbering x)

-- an inequality in variables and their opposites
abbrev pub inv_line : List (List ℕ) → Inequality (Option ℤ) → List ℕ
inv_line names i = codes "inv " ++ printed_inequality MaxKind max_numbering (twin_names names) i

-- one word where there are no rows, else a line for each row and then one for each inequality
abbrev pub lines_on : List (List ℕ) → List (List (Option ℤ)) → List (Inequality (Option ℤ)) → List ℕ
lines_on names [] printed = codes "unreachable\n"
lines_on names (x ∷ rows) printed = lines_text row_line (x ∷ rows) ++ lines_text (inv_line names) printed

abbrev pub block_text : List (List ℕ) → Part (Option ℤ) → List ℕ
block_text names part = lines_on names part.rows part.printed
