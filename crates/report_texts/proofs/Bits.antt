-- Words and numbers with a blank between each two, and the tokens that they are read as.
-- Index: Bit, bits_text, AreBits, bits_written, bits_then, bits_end, bits_some.
use Rattle.std.proofs.Common.{◌≡◌, ◌<◌, ◌^◌, ℕ, true, List, [], ◌∷◌, ◌++◌, codes, Result, Ok, refl, sym, ap, ◌∙◌}
use Rattle.std.specs.Prelude.{decimal}
use Rattle.trop_text.specs.Name.{is_word}
use Rattle.trop_text.specs.Pieces.{Piece, Token, LineEnd}
use Rattle.trop_text.specs.declared.token.TokenKind.{TokenKind}
use Rattle.trop_text.specs.declared.token.TokenKind.TheVariants.{Word, Digits}
use Rattle.trop_text.specs.declared.fault.FaultKind.{FaultKind}
use Rattle.trop_text.proofs.Written.{tok, IsOne, IsWritten, written_join, written_as}
use Rattle.trop_text.proofs.WrittenTokens.{StopsWord, word_written, digits_written, blank_written}
use Rattle.trop_grammar.specs.Grammar.{One, Empty, Then}
use Rattle.trop_grammar.specs.Lists.{Passes}
use Rattle.trop_reading.specs.Words.{line_end}

-- a word, or a number
pub data Bit : Type 0 where
  Says : List ℕ → Bit
  Counts : ℕ → Bit

abbrev pub bit_text : Bit → List ℕ
bit_text (Says word) = word
bit_text (Counts n) = decimal n

abbrev pub bit_kind : Bit → TokenKind
bit_kind (Says word) = Word
bit_kind (Counts n) = Digits

abbrev pub IsBit : Bit → Type 0
IsBit (Says word) = is_word word ≡ true
IsBit (Counts n) = n < 2 ^ 64

-- the others each behind a blank
abbrev pub bits_text : Bit → List Bit → List ℕ
bits_text b [] = bit_text b
bits_text b (c ∷ bs) = bit_text b ++ (codes " " ++ bits_text c bs)

abbrev pub AllBits : List Bit → Type 0
AllBits [] = Unit {0}
AllBits (b ∷ bs) = IsBit b × AllBits bs

-- a token of each
abbrev pub AreBits : List Bit → List Piece → Type 0
AreBits [] us = us ≡ []
AreBits (b ∷ bs) us = (line column : ℕ) × (vs : List Piece)
    × (us ≡ Token (tok (bit_kind b) (bit_text b) line column) ∷ vs) × AreBits bs vs

bit_written : (b : Bit) → IsBit b → IsWritten StopsWord (bit_text b) (IsOne (bit_kind b) (bit_text b))
bit_written (Says word) h = word_written word h
bit_written (Counts n) h = digits_written n h

pub bits_written : (b : Bit) (bs : List Bit) → IsBit b → AllBits bs →
    IsWritten StopsWord (bits_text b bs) (AreBits (b ∷ bs))
bits_written b [] h k = written_as (λ us g. (g.line, g.column, [], g.whole, refl)) (λ rest s. s) (bit_written b h)
bits_written b (c ∷ bs) h k =
    written_join (λ us vs g m. (g.line, g.column, vs, ap (λ (z : List Piece). z ++ vs) g.whole, m)) (λ rest s. refl)
    (bit_written b h) (blank_written (bits_written c bs k.0 k.1))

-- ---- what such tokens spell

-- the first one, and what stands behind it
pub bits_then : {A B : Type 0} {judge : Piece → Result A FaultKind} {S : A → List Piece → B → Type 0} (b : Bit)
    (bs : List Bit) (us ends : List Piece) (x : A) (y : B) → AreBits (b ∷ bs) us →
    ((line column : ℕ) → judge (Token (tok (bit_kind b) (bit_text b) line column)) ≡ Ok x) →
    ((vs : List Piece) → AreBits bs vs → S x (vs ++ ends) y) → Then (One (Passes judge)) S (us ++ ends) y
bits_then b bs us ends x y h passes more =
    let t = Token (tok (bit_kind b) (bit_text b) h.0 h.1) in
    record {
      front = t ∷ [];
      back = h.2 ++ ends;
      value = x;
      whole = ap (λ (z : List Piece). z ++ ends) h.3;
      first = record { token = t; whole = refl; is = passes h.0 h.1 };
      second = more h.2 h.4;
    }

-- the end of the line, with which the value is made
pub line_ended : {B : Type 0} (line : ℕ) (y : B) (us : List Piece) → us ≡ [] →
    Then (One (Passes line_end)) (λ u. Empty y) (us ++ LineEnd line ∷ []) y
line_ended line y us none = record {
  front = LineEnd line ∷ [];
  back = [];
  value = tt;
  whole = ap (λ (z : List Piece). z ++ LineEnd line ∷ []) none;
  first = record { token = LineEnd line; whole = refl; is = refl };
  second = record { none = refl; is = refl };
}

pub bits_some : (b : Bit) (bs : List Bit) (us : List Piece) → AreBits (b ∷ bs) us → us ≡ [] → ⊥
bits_some b bs us h e = let k = sym e ∙ h.3 in cc
