-- Single rows and inequalities that stand in a line of a source, with nothing behind them in that line.
use Rattle.std.specs.Prelude.{ℕ, List}
use Rattle.trop_theory.specs.Semiring.{Semiring}
use Rattle.trop_theory.specs.Numbers.{Numbering}
use Rattle.trop_grammar.specs.Reading.{Reading, ◌>>=◌, gives, token_at}
use Rattle.trop_grammar.specs.Grammar.{One, Empty, Then}
use Rattle.trop_grammar.specs.Lists.{Passes}
use Rattle.trop_text.specs.Pieces.{Piece}
use Rattle.trop_text.specs.declared.fault.FaultKind.{FaultKind}
use Rattle.trop_text.specs.declared.fault.FaultKind.TheVariants.{Syntax}
use Rattle.trop_spelling.specs.declared.ring_kind.RingKind.{RingKind}
use Rattle.trop_reading.specs.Words.{line_end}
use Rattle.trop_spelling.specs.Elements.{IsRow, row_at}

-- a row of so many elements, and the end of its line
abbrev pub IsRowLine : {V : Type 0} → RingKind → Semiring V → Numbering V → ℕ → ℕ → List Piece → List V → Type 0
IsRowLine kind R N bound len = Then (IsRow kind R N bound len) (λ row. Then (One (Passes line_end)) (λ u. Empty row))

-- ---- reading

unfoldable pub row_line_at : {V : Type 0} → RingKind → Semiring V → Numbering V → ℕ → ℕ → List Piece →
    Reading Piece FaultKind (List V)
row_line_at kind R N bound len = row_at kind R N bound len >>= λ row. token_at Syntax line_end >>= λ u. gives row
