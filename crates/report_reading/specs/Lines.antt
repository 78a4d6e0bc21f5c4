-- A line behind the program, as the reader holds it.
use Rattle.std.specs.Prelude.{ℕ, List, ◌∷◌}
use Rattle.trop_theory.specs.Semiring.{Semiring}
use Rattle.trop_theory.specs.Numbers.{Numbering}
use Rattle.trop_grammar.specs.Reading.{Reading, ◌>>=◌, gives, token_at}
use Rattle.trop_text.specs.Pieces.{Piece}
use Rattle.trop_text.specs.declared.fault.FaultKind.{FaultKind}
use Rattle.trop_text.specs.declared.fault.FaultKind.TheVariants.{Syntax}
use Rattle.trop_reading.specs.Words.{line_end}
use Rattle.trop_spelling.specs.declared.ring_kind.RingKind.{RingKind}
use Rattle.trop_spelling.specs.Inequalities.{inequality_at}
use Rattle.trop_spelling.specs.Parts.{row_line_at}
use Rattle.report_texts.specs.Limits.{greatest_entry, greatest_inv}
use Rattle.report_texts.specs.Heads.{digits}
use Rattle.report_texts.specs.Lines as spec
use Rattle.report_texts.specs.LineTexts as texts
use Rattle.report_reading.specs.declared.lines.Line.{Line}
use Rattle.report_reading.specs.declared.lines.Line.TheVariants as lines
use Rattle.report_reading.specs.declared.lines.Word.{Word}
use Rattle.report_reading.specs.declared.lines.Word.TheVariants as words
use Rattle.report_reading.specs.Words.{number_in, label_of}

abbrev pub line_of : {V Store : Type 0} → Line V Store → spec.Line V
line_of (lines.At n l) = spec.At (number_in n) (label_of l)
line_of lines.Unreachable = spec.Unreachable
line_of (lines.Row x) = spec.Row x
line_of (lines.Inv i) = spec.Inv i
line_of (lines.Assert n b) = spec.Asserted (number_in n) b
line_of lines.Last = spec.Last

-- the first word of a line
abbrev pub word_of : {V : Type 0} → Semiring V → Word → texts.Word V
word_of R words.At = texts.AtWord
word_of R words.Unreachable = texts.ShutWord
word_of R words.Point = texts.RowWord R.one
word_of R words.Ray = texts.RowWord R.zero
word_of R words.Inv = texts.InvWord
word_of R words.Assert = texts.AssertWord
word_of R words.End = texts.EndWord

-- ---- what stands behind the first word, by the words

abbrev pub at_rest_at : {V : Type 0} → List Piece → Reading Piece FaultKind (spec.Line V)
at_rest_at =
    token_at Syntax digits >>= λ n. token_at Syntax texts.label_word >>= λ w. texts.label_rest_at w >>= λ p.
    token_at Syntax line_end >>= λ u. gives (spec.At n p)

abbrev pub shut_rest_at : {V : Type 0} → List Piece → Reading Piece FaultKind (spec.Line V)
shut_rest_at = token_at Syntax line_end >>= λ u. gives spec.Unreachable

abbrev pub end_rest_at : {V : Type 0} → List Piece → Reading Piece FaultKind (spec.Line V)
end_rest_at = token_at Syntax line_end >>= λ u. gives spec.Last

abbrev pub assert_rest_at : {V : Type 0} → List Piece → Reading Piece FaultKind (spec.Line V)
assert_rest_at =
    token_at Syntax digits >>= λ n. token_at Syntax texts.verdict_word >>= λ b. token_at Syntax line_end >>= λ u.
    gives (spec.Asserted n b)

abbrev pub row_rest_at : {V : Type 0} → RingKind → Semiring V → Numbering V → ℕ → V → List Piece →
    Reading Piece FaultKind (spec.Line V)
row_rest_at kind R N n c = row_line_at kind R N greatest_entry n >>= λ row.
    gives (spec.Row (texts.normalised R N (c ∷ row)))

abbrev pub inv_rest_at : {V : Type 0} → RingKind → Semiring V → Numbering V → List (List ℕ) → List Piece →
    Reading Piece FaultKind (spec.Line V)
inv_rest_at kind R N names = inequality_at kind R N greatest_inv names >>= λ i. gives (spec.Inv i)
