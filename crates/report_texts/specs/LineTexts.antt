-- The texts of the lines behind the program, and how they are read.
use Rattle.std.specs.Prelude.{ℕ, Bool, true, false, List, [], ◌∷◌, length, codes, is_some, Option, Some, None, Result, Ok, Err, if◌then◌else◌}
use Rattle.trop_theory.specs.Semiring.{Semiring}
use Rattle.trop_theory.specs.Numbers.{Numbering}
use Rattle.trop_theory.specs.Vectors.{scaled}
use Rattle.trop_grammar.specs.Reading.{Reading, ◌>>=◌, gives, token_at}
use Rattle.trop_grammar.specs.Grammar.{One, Empty, Then}
use Rattle.trop_grammar.specs.Lists.{Passes}
use Rattle.trop_text.specs.Pieces.{Piece}
use Rattle.trop_text.specs.declared.fault.FaultKind.{FaultKind}
use Rattle.trop_text.specs.declared.fault.FaultKind.TheVariants.{Syntax}
use Rattle.trop_reading.specs.Words.{says, line_end}
use Rattle.trop_spelling.specs.declared.ring_kind.RingKind.{RingKind}
use Rattle.trop_spelling.specs.Inequalities.{IsInequality, inequality_at}
use Rattle.trop_spelling.specs.Parts.{IsRowLine, row_line_at}
use Rattle.prog_theory.specs.Graph.{Point, Statement, Inner, Exit}
use Rattle.report_texts.specs.Lines.{Line, At, Unreachable, Row, Inv, Asserted, Last}
use Rattle.report_texts.specs.Limits.{greatest_entry, greatest_inv}
use Rattle.report_texts.specs.Heads.{digits}
use Rattle.report_texts.specs.Progress.{Place, may_shut, may_row, may_inv}

-- ---- normal forms

-- the first entry that is not the zero
abbrev pub leading : {V : Type 0} → Numbering V → List V → Option V
leading N [] = None
leading N (a ∷ x) = if is_some (N.to a) then Some a else leading N x

abbrev pub divided : {V : Type 0} → Semiring V → Option V → List V → List V
divided R None x = x
divided R (Some a) x = scaled R (R.inverse a) x

-- the multiple whose first finite entry is the one
abbrev pub normalised : {V : Type 0} → Semiring V → Numbering V → List V → List V
normalised R N x = divided R (leading N x) x

-- ---- words

-- the first word of a line; that of a row as the entry at coordinate 0
pub data Word (V : Type 0) : Type 0 where
  AtWord : Word V
  ShutWord : Word V
  RowWord : V → Word V
  InvWord : Word V
  AssertWord : Word V
  EndWord : Word V

unfoldable pub line_word : {V : Type 0} → Semiring V → Piece → Result (Word V) FaultKind
line_word R p =
    if says (codes "at") p then Ok AtWord
    else (if says (codes "unreachable") p then Ok ShutWord
    else (if says (codes "point") p then Ok (RowWord R.one)
    else (if says (codes "ray") p then Ok (RowWord R.zero)
    else (if says (codes "inv") p then Ok InvWord
    else (if says (codes "assert") p then Ok AssertWord
    else (if says (codes "end") p then Ok EndWord else Err Syntax))))))

abbrev pub where_may : {A : Type 0} → Result (Unit {0}) FaultKind → A → Result A FaultKind
where_may (Ok u) x = Ok x
where_may (Err what) x = Err what

-- the word may stand at this place
abbrev pub admitted : {V : Type 0} → Place V → Word V → Result (Word V) FaultKind
admitted place AtWord = Ok AtWord
admitted place AssertWord = Ok AssertWord
admitted place EndWord = Ok EndWord
admitted place ShutWord = where_may (may_shut place) ShutWord
admitted place (RowWord c) = where_may (may_row place) (RowWord c)
admitted place InvWord = where_may (may_inv place) InvWord

abbrev pub both : {A : Type 0} → Result A FaultKind → (A → Result A FaultKind) → Result A FaultKind
both (Ok x) f = f x
both (Err what) f = Err what

abbrev pub placed_word : {V : Type 0} → Semiring V → Place V → Piece → Result (Word V) FaultKind
placed_word R place p = both (line_word R p) (admitted place)

-- what point it is; a statement has its number behind it
pub data Label : Type 0 where
  OfStatement : Label
  Alone : Point → Label

abbrev pub label_word : Piece → Result Label FaultKind
label_word p =
    if says (codes "statement") p then Ok OfStatement
    else (if says (codes "inner") p then Ok (Alone Inner)
    else (if says (codes "exit") p then Ok (Alone Exit) else Err Syntax))

abbrev pub verdict_word : Piece → Result Bool FaultKind
verdict_word p = if says (codes "proved") p then Ok true else
    (if says (codes "unknown") p then Ok false else Err Syntax)

-- ---- grammar

abbrev pub IsLabelRest : Label → List Piece → Point → Type 0
IsLabelRest OfStatement = Then (One (Passes digits)) (λ k. Empty (Statement k))
IsLabelRest (Alone p) = Empty p

-- Behind the first word, with the end of the line. Numbers of rows have size at most 2^40, those of inequalities at
-- most 2^48; a row is meant in normal form.
abbrev pub IsLineRest : {V : Type 0} → RingKind → Semiring V → Numbering V → List (List ℕ) → Word V → List Piece →
    Line V → Type 0
IsLineRest kind R N names AtWord =
    Then (One (Passes digits)) (λ n. Then (One (Passes label_word)) (λ w. Then (IsLabelRest w)
    (λ p. Then (One (Passes line_end)) (λ u. Empty (At n p)))))
IsLineRest kind R N names ShutWord = Then (One (Passes line_end)) (λ u. Empty Unreachable)
IsLineRest kind R N names (RowWord c) = Then (IsRowLine kind R N greatest_entry (length names))
    (λ row. Empty (Row (normalised R N (c ∷ row))))
IsLineRest kind R N names InvWord = Then (IsInequality kind R N greatest_inv names) (λ i. Empty (Inv i))
IsLineRest kind R N names AssertWord =
    Then (One (Passes digits)) (λ n. Then (One (Passes verdict_word)) (λ b. Then (One (Passes line_end))
    (λ u. Empty (Asserted n b))))
IsLineRest kind R N names EndWord = Then (One (Passes line_end)) (λ u. Empty Last)

-- a line over these names
abbrev pub IsLine : {V : Type 0} → RingKind → Semiring V → Numbering V → List (List ℕ) → List Piece → Line V → Type 0
IsLine kind R N names = Then (One (Passes (line_word R))) (IsLineRest kind R N names)

-- a line that may stand at this place
abbrev pub IsPlacedLine : {V : Type 0} → RingKind → Semiring V → Numbering V → List (List ℕ) → Place V → List Piece →
    Line V → Type 0
IsPlacedLine kind R N names place = Then (One (Passes (placed_word R place))) (IsLineRest kind R N names)

-- ---- reading

unfoldable pub label_rest_at : Label → List Piece → Reading Piece FaultKind Point
label_rest_at OfStatement = token_at Syntax digits >>= λ k. gives (Statement k)
label_rest_at (Alone p) = gives p

unfoldable pub line_rest_at : {V : Type 0} → RingKind → Semiring V → Numbering V → List (List ℕ) → Word V →
    List Piece → Reading Piece FaultKind (Line V)
line_rest_at kind R N names AtWord =
    token_at Syntax digits >>= λ n. token_at Syntax label_word >>= λ w. label_rest_at w >>= λ p.
    token_at Syntax line_end >>= λ u. gives (At n p)
line_rest_at kind R N names ShutWord = token_at Syntax line_end >>= λ u. gives Unreachable
line_rest_at kind R N names (RowWord c) = row_line_at kind R N greatest_entry (length names) >>= λ row.
    gives (Row (normalised R N (c ∷ row)))
line_rest_at kind R N names InvWord = inequality_at kind R N greatest_inv names >>= λ i. gives (Inv i)
line_rest_at kind R N names AssertWord =
    token_at Syntax digits >>= λ n. token_at Syntax verdict_word >>= λ b. token_at Syntax line_end >>= λ u.
    gives (Asserted n b)
line_rest_at kind R N names EndWord = token_at Syntax line_end >>= λ u. gives Last

unfoldable pub line_at : {V : Type 0} → RingKind → Semiring V → Numbering V → List (List ℕ) → Place V →
    List Piece → Reading Piece FaultKind (Line V)
line_at kind R N names place = token_at Syntax (placed_word R place) >>= line_rest_at kind R N names
