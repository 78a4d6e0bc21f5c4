-- A word, digits and a sign are each read as one token, before what does not go on with them.
-- Index: Always, StopsWord, word_written, digits_written, IsShort, short_written, IsLong, long_written, blank_written.
use Rattle.std.proofs.Common.{◌≡◌, ◌≤◌, ◌<◌, ◌+◌, ◌^◌, ℕ, Bool, true, false, List, [], ◌∷◌, ◌++◌, length, take, drop, codes, refl, ap, ◌∙◌, arith, length-append}
use Rattle.std.specs.Prelude.{decimal}
use Rattle.std.specs.List.{list_all, prefix_len}
use Rattle.std.specs.Int.{IsInRange}
use Rattle.std.specs.Str.Parse.{AllDigits}
use Rattle.std.proofs.lemmas.Bool.{le-leb}
use Rattle.std.proofs.lemmas.Bool.Decides.{nat_tests}
use Rattle.std.proofs.lemmas.Str.Parse.{digit_from_value}
use Rattle.std.proofs.lemmas.Fmt.{decimal_is_IsNumeral, decimal_nonempty}
use Rattle.trop_text.specs.Bytes.{is_letter, is_digit, is_word_byte, is_line_feed, is_blank, is_hash}
use Rattle.trop_text.specs.Name.{is_word}
use Rattle.trop_text.specs.Tokens.{kind_of, tail_len, sign_len, is_long_sign, is_short_sign, tokens_past}
use Rattle.trop_text.specs.Pieces.{Piece}
use Rattle.trop_text.specs.declared.token.TokenKind.{TokenKind}
use Rattle.trop_text.specs.declared.token.TokenKind.TheVariants.{Word, Digits, Sign}
use Rattle.trop_text.proofs.Signs.{and_first, and_second, and_both}
use Rattle.trop_text.proofs.Skips.{tokens_skip}
use Rattle.trop_text.proofs.Written.{tok, IsOne, IsLexed, IsWritten}

-- anything may follow
abbrev pub Always : List ℕ → Type 0
Always rest = Unit {0}

-- what follows goes on with no word and no digits
abbrev pub StopsWord : List ℕ → Type 0
StopsWord [] = Unit {0}
StopsWord (b ∷ bs) = is_word_byte b ≡ false

-- a byte that is no blank, no line feed and no `#`
abbrev Stands : ℕ → Type 0
Stands b = (is_line_feed b ≡ false) × (is_blank b ≡ false) × (is_hash b ≡ false)

take_front : (xs ys : List ℕ) → take (length xs) (xs ++ ys) ≡ xs
take_front [] ys = refl
take_front (x ∷ xs) ys = ap (λ zs. x ∷ zs) (take_front xs ys)

drop_front : (xs ys : List ℕ) → drop (length xs) (xs ++ ys) ≡ ys
drop_front [] ys = refl
drop_front (x ∷ xs) ys = drop_front xs ys

-- the bytes b ∷ bs before rest are one token
one_token : (kind : TokenKind) (b : ℕ) (bs rest : List ℕ) (line column : ℕ) → Stands b → kind_of b (bs ++ rest) ≡ kind →
    tail_len b (bs ++ rest) ≡ length bs
    → tokens_past 0 (b ∷ (bs ++ rest)) line column ≡ tok kind (b ∷ bs) line column ∷ tokens_past 0 rest line
    (column + length (b ∷ bs))
unfolding tokens_past
one_token kind b bs rest line column stands k n =
    let within : length bs ≤ length (bs ++ rest) = omega (arith, length-append bs rest) in
    let place : column + 1 + length bs ≡ column + length (b ∷ bs) = omega arith in
    let skip = tokens_skip (length bs) (bs ++ rest) line (column + 1) within
    ∙ ap (λ zs. tokens_past 0 zs line (column + 1 + length bs)) (drop_front bs rest)
    ∙ ap (λ c. tokens_past 0 rest line c) place in
    rw (stands.0, stands.1, stands.2, k, n, take_front bs rest) (ap (λ ts. tok kind (b ∷ bs) line column ∷ ts) skip)

one_lexed : (kind : TokenKind) (b : ℕ) (bs rest : List ℕ) (line column : ℕ) → Stands b → kind_of b (bs ++ rest) ≡ kind →
    tail_len b (bs ++ rest) ≡ length bs → IsLexed (b ∷ bs) rest line column (IsOne kind (b ∷ bs))
one_lexed kind b bs rest line column stands k n = record {
  tokens = tok kind (b ∷ bs) line column ∷ [];
  lexed = one_token kind b bs rest line column stands k n;
  on = (refl, tt);
  is = record { line = line; column = column; whole = refl };
}

-- ---- words and digits

module _ (p : ℕ → Bool) where
  Ends : List ℕ → Type 0
  Ends [] = Unit {0}
  Ends (b ∷ bs) = p b ≡ false

  whole_prefix : (bs rest : List ℕ) → list_all p bs ≡ true → Ends rest → prefix_len p (bs ++ rest) ≡ length bs
  unfolding Ends
  whole_prefix [] [] all ends = refl
  whole_prefix [] (c ∷ rest) all ends = rw ends refl
  whole_prefix (b ∷ bs) rest all ends =
      let more = whole_prefix bs rest (and_second (p b) (list_all p bs) all) ends in
      rw (and_first (p b) (list_all p bs) all, more) (omega arith)

letter_stands : (b : ℕ) → is_letter b ≡ true → Stands b
letter_stands b h = (grind (arith, nat_tests), grind (arith, nat_tests), grind (arith, nat_tests))

digit_stands : (b : ℕ) → is_digit b ≡ true → Stands b
digit_stands b h = (grind (arith, nat_tests), grind (arith, nat_tests), grind (arith, nat_tests))

digit_is_no_letter : (b : ℕ) → is_digit b ≡ true → is_letter b ≡ false
digit_is_no_letter b h = grind (arith, nat_tests)

no_digit_follows : (b : ℕ) → is_word_byte b ≡ false → is_digit b ≡ false
no_digit_follows b h = grind (arith, nat_tests)

pub word_written : (text : List ℕ) → is_word text ≡ true → IsWritten StopsWord text (IsOne Word text)
unfolding Ends tail_len
word_written [] h = absurd cc
word_written (b ∷ bs) h = record { at = at }
  where
    letter : is_letter b ≡ true
    letter = and_first (is_letter b) (list_all is_word_byte bs) h

    ends : (rest : List ℕ) → StopsWord rest → Ends is_word_byte rest
    ends [] s = tt
    ends (c ∷ rest) s = s

    is_kind : (rest : List ℕ) → kind_of b rest ≡ Word
    is_kind rest = rw letter refl

    tail : (rest : List ℕ) → StopsWord rest → tail_len b (bs ++ rest) ≡ length bs
    tail rest s = rw letter (whole_prefix is_word_byte bs rest (and_second (is_letter b) (list_all is_word_byte bs) h)
        (ends rest s))

    at : (rest : List ℕ) (line column : ℕ) → StopsWord rest → IsLexed (b ∷ bs) rest line column (IsOne Word (b ∷ bs))
    at rest line column s = one_lexed Word b bs rest line column (letter_stands b letter) (is_kind (bs ++ rest))
        (tail rest s)

-- digits, which are at least one
digit_texts_written : (b : ℕ) (bs : List ℕ) → list_all is_digit (b ∷ bs) ≡ true →
    IsWritten StopsWord (b ∷ bs) (IsOne Digits (b ∷ bs))
unfolding Ends tail_len
digit_texts_written b bs h = record { at = at }
  where
    digit : is_digit b ≡ true
    digit = and_first (is_digit b) (list_all is_digit bs) h

    ends : (rest : List ℕ) → StopsWord rest → Ends is_digit rest
    ends [] s = tt
    ends (c ∷ rest) s = no_digit_follows c s

    is_kind : (rest : List ℕ) → kind_of b rest ≡ Digits
    is_kind rest = rw (digit_is_no_letter b digit, digit) refl

    tail : (rest : List ℕ) → StopsWord rest → tail_len b (bs ++ rest) ≡ length bs
    tail rest s = rw (digit_is_no_letter b digit, digit)
        (whole_prefix is_digit bs rest (and_second (is_digit b) (list_all is_digit bs) h) (ends rest s))

    at : (rest : List ℕ) (line column : ℕ) → StopsWord rest → IsLexed (b ∷ bs) rest line column (IsOne Digits (b ∷ bs))
    at rest line column s = one_lexed Digits b bs rest line column (digit_stands b digit) (is_kind (bs ++ rest))
        (tail rest s)

digit_passes : (c : ℕ) → IsInRange 48 57 c → is_digit c ≡ true
digit_passes c h = and_both _ _ (le-leb 48 c (omega (arith, h))) (le-leb c 57 (omega (arith, h)))

digits_pass : (ds : List ℕ) → AllDigits 10 ds → list_all is_digit ds ≡ true
digits_pass [] h = refl
digits_pass (d ∷ ds) h = and_both (is_digit d) (list_all is_digit ds) (digit_passes d (digit_from_value d h.0))
    (digits_pass ds h.1)

some_digits_written : (ds : List ℕ) → 0 < length ds → AllDigits 10 ds → IsWritten StopsWord ds (IsOne Digits ds)
some_digits_written [] l h = absurd (omega arith)
some_digits_written (d ∷ ds) l h = digit_texts_written d ds (digits_pass (d ∷ ds) h)

-- a number as it is printed
pub digits_written : (n : ℕ) → n < 2 ^ 64 → IsWritten StopsWord (decimal n) (IsOne Digits (decimal n))
digits_written n small = some_digits_written (decimal n) (decimal_nonempty n small) (decimal_is_IsNumeral n small).0.1

-- ---- signs

-- a sign of one byte with which no longer one begins
pub record IsShort (b : ℕ) : Type 0 where
  pub stands : (is_line_feed b ≡ false) × (is_blank b ≡ false) × (is_hash b ≡ false)
  pub no_letter : is_letter b ≡ false
  pub no_digit : is_digit b ≡ false
  pub short : is_short_sign b ≡ true
  pub alone : (c : ℕ) → is_long_sign b c ≡ false

short_len : (b : ℕ) (rest : List ℕ) → IsShort b → sign_len b rest ≡ 1
unfolding sign_len
short_len b [] h = rw h.short refl
short_len b (c ∷ rest) h = rw (h.alone c, h.short) refl

pub short_written : (b : ℕ) → IsShort b → IsWritten Always (b ∷ []) (IsOne Sign (b ∷ []))
unfolding tail_len
short_written b h = record { at = at }
  where
    is_kind : (rest : List ℕ) → kind_of b rest ≡ Sign
    is_kind rest = rw (h.no_letter, h.no_digit, short_len b rest h) refl

    tail : (rest : List ℕ) → tail_len b rest ≡ 0
    tail rest = rw (h.no_letter, h.no_digit, short_len b rest h) refl

    at : (rest : List ℕ) (line column : ℕ) → Always rest → IsLexed (b ∷ []) rest line column (IsOne Sign (b ∷ []))
    at rest line column s = one_lexed Sign b [] rest line column h.stands (is_kind rest) (tail rest)

-- a sign of two bytes
pub record IsLong (b c : ℕ) : Type 0 where
  pub stands : (is_line_feed b ≡ false) × (is_blank b ≡ false) × (is_hash b ≡ false)
  pub no_letter : is_letter b ≡ false
  pub no_digit : is_digit b ≡ false
  pub long : is_long_sign b c ≡ true

long_len : (b c : ℕ) (rest : List ℕ) → IsLong b c → sign_len b (c ∷ rest) ≡ 2
unfolding sign_len
long_len b c rest h = rw h.long refl

pub long_written : (b c : ℕ) → IsLong b c → IsWritten Always (b ∷ c ∷ []) (IsOne Sign (b ∷ c ∷ []))
unfolding tail_len
long_written b c h = record { at = at }
  where
    is_kind : (rest : List ℕ) → kind_of b (c ∷ rest) ≡ Sign
    is_kind rest = rw (h.no_letter, h.no_digit, long_len b c rest h) refl

    tail : (rest : List ℕ) → tail_len b (c ∷ rest) ≡ 1
    tail rest = rw (h.no_letter, h.no_digit, long_len b c rest h) refl

    at : (rest : List ℕ) (line column : ℕ) → Always rest →
        IsLexed (b ∷ c ∷ []) rest line column (IsOne Sign (b ∷ c ∷ []))
    at rest line column s = one_lexed Sign b (c ∷ []) rest line column h.stands (is_kind rest) (tail rest)

-- ---- blanks

pub blank_written : {S : List ℕ → Type 0} {text : List ℕ} {G : List Piece → Type 0} → IsWritten S text G →
    IsWritten S (codes " " ++ text) G
unfolding tokens_past
blank_written {S} {text} {G} g = record { at = at }
  where
    at : (rest : List ℕ) (line column : ℕ) → S rest → IsLexed (codes " " ++ text) rest line column G
    at rest line column s =
        let a = g.at rest line (column + 1) s in
        let place : column + 1 + length text ≡ column + length (codes " " ++ text) = omega arith in
        record {
          tokens = a.tokens;
          lexed = a.lexed ∙ ap (λ c. a.tokens ++ tokens_past 0 rest line c) place;
          on =
              a.on;
          is = a.is;
        }
