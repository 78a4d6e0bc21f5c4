-- What the parts of a row stand for.
use Rattle.std.specs.Prelude.{ℕ, ℤ, ◌≤◌, ◌^◌, List, [], ◌∷◌, Option, Some, None, IfSome}
use Rattle.trop_text.specs.declared.fault.FaultKind.{FaultKind}
use Rattle.trop_text.specs.declared.fault.FaultKind.TheVariants.{Syntax}
use Rattle.trop_grammar.specs.Reading.{Reading, ◌>>=◌}
use Rattle.shape_grammar.specs.Steps.{token_past, many_past}
use Rattle.prog_texts.specs.Words.{Counted, skipped}
use Rattle.prog_texts.specs.RowRule as rules
use Rattle.prog_texts.specs.Rows as rows
use Rattle.prog_texts.specs.Rows.{entry_first, entry_rest, comma, next_entry_at}
use Rattle.prog_lang.specs.declared.rows.RowRule.{RowRule}
use Rattle.prog_lang.specs.declared.rows.RowRule.TheVariants.{OneEach, AnyNumber}
use Rattle.prog_lang.specs.declared.rows.RowStart.{RowStart}
use Rattle.prog_lang.specs.declared.rows.RowStart.TheVariants.{Bare, Starts}

abbrev pub row_rule_of : RowRule → rules.RowRule
row_rule_of OneEach = rules.one_each
row_rule_of AnyNumber = rules.any_number

abbrev pub row_start_of : RowStart → rows.RowStart
row_start_of Bare = rows.Bare
row_start_of (Starts f) = rows.Starts f

-- a number of a row is at most its bound
abbrev pub IsSmall : Option ℕ → Type 0
IsSmall o = IfSome o (λ n. n ≤ 2 ^ 40)

abbrev pub IsSmallStart : RowStart → Type 0
IsSmallStart Bare = Unit {0}
IsSmallStart (Starts f) = IsSmall f

-- an entry, and the entries behind the first
abbrev pub entry_at : List Counted → Reading Counted FaultKind ℤ
entry_at = token_past skipped Syntax (entry_first (2 ^ 40)) >>= entry_rest (2 ^ 40)

abbrev pub entries_at : RowRule → ℤ → List Counted → Reading Counted FaultKind (List ℤ)
entries_at R x = many_past skipped (λ (xs : List ℤ). comma (row_rule_of R)) (next_entry_at (2 ^ 40)) (x ∷ [])
