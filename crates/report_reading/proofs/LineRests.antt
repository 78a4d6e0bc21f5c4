-- What stands behind the first word of a line, by the word.
use Rattle.std.proofs.Common.{◌≡◌, ℕ, List, refl}
use Rattle.trop_theory.specs.Semiring.{Semiring}
use Rattle.trop_theory.specs.Numbers.{Numbering}
use Rattle.trop_text.specs.Pieces.{Piece}
use Rattle.trop_spelling.specs.declared.ring_kind.RingKind.{RingKind}
use Rattle.report_texts.specs.LineTexts.{AtWord, line_rest_at}
use Rattle.report_reading.specs.Lines.{at_rest_at}

pub rest_of_at : {V : Type 0} (kind : RingKind) (R : Semiring V) (N : Numbering V) (names : List (List ℕ))
    (ts : List Piece) → line_rest_at kind R N names AtWord ts ≡ at_rest_at ts
unfolding line_rest_at
rest_of_at kind R N names ts = refl
