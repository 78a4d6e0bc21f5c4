-- The bytes of inks are lexed as their texts.
-- Index: Stops, HaveTexts, IsLexedAs, lexes.
use Rattle.std.proofs.Common.{◌≡◌, ◌≤◌, ◌<◌, ◌+◌, ◌^◌, ℕ, Bool, true, false, List, [], ◌∷◌, ◌++◌, map, length, codes, refl, sym, ap, subst, ◌∙◌, append_assoc, arith, decimal}
use Rattle.std.specs.Prelude.{not}
use Rattle.std.specs.List.{list_all}
use Rattle.std.proofs.lemmas.Bool.Decides.{nat_tests}
use Rattle.trop_text.specs.Bytes.{is_letter, is_digit, is_word_byte}
use Rattle.trop_text.specs.Lexed.{are_digits}
use Rattle.trop_text.specs.Name.{is_word}
use Rattle.trop_text.specs.Tokens.{Tok, kind_of, tail_len, sign_len, tokens_past}
use Rattle.trop_text.specs.Pieces.{Token}
use Rattle.trop_text.specs.declared.token.TokenKind.{TokenKind}
use Rattle.trop_text.specs.declared.token.TokenKind.TheVariants.{Word, Digits, Sign}
use Rattle.trop_text.proofs.Signs.{and_first}
use Rattle.trop_text.proofs.Written.{tok, IsOne, IsLexed}
use Rattle.trop_text.proofs.WrittenTokens.{StopsWord, word_written, digits_written, short_written, long_written}
use Rattle.prog_texts.specs.Words.{Before}
use Rattle.prog_texts.specs.Inks.{Ink, Says, Name, Number, Blank, Feed, name_text, ink_text, inks_text}
use Rattle.prog_print.proofs.Walks.{Edge, Apart, Wordy, Open, edge_of_word, goes_further, begins_further, may_follow, IsOpening, IsToken, IsSound, Walks, after_ink, last_edge}
use Rattle.prog_print.proofs.PlainTexts.{itself, name_word, decimal_are_digits}

-- what follows goes on with no sign
abbrev pub StopsSign : List ℕ → Type 0
StopsSign [] = Unit {0}
StopsSign (b ∷ bs) = goes_further b ≡ false

abbrev pub Stops : Edge → List ℕ → Type 0
Stops Apart rest = Unit {0}
Stops Wordy rest = StopsWord rest
Stops Open rest = StopsSign rest

not_true : (b : Bool) → not b ≡ true → b ≡ false
not_true true h = sym h
not_true false h = refl

no_both : (b : Bool) → b ≡ true → b ≡ false → ⊥
no_both b p r = let h = sym p ∙ r in cc

-- ---- one token

pub record IsFirst (text rest : List ℕ) (line column : ℕ) : Type 0 where
  pub token : Tok
  pub is : token.text ≡ text
  pub lexed : tokens_past 0 (text ++ rest) line column ≡ token ∷ tokens_past 0 rest line (column + length text)

lone : (ts : List Tok) (t : Tok) → map Token ts ≡ Token t ∷ [] → ts ≡ t ∷ []
lone [] t e = absurd cc
lone (u ∷ []) t e = let same : u ≡ t = cc in ap (λ (z : Tok). z ∷ []) same
lone (u ∷ v ∷ us) t e = absurd cc

from_one : (kind : TokenKind) (text rest : List ℕ) (line column : ℕ) → IsLexed text rest line column (IsOne kind text) →
    IsFirst text rest line column
from_one kind text rest line column a =
    let t = tok kind text a.is.line a.is.column in
    let same : a.tokens ≡ t ∷ [] = lone a.tokens t a.is.whole in
    record {
      token = t;
      is = refl;
      lexed = a.lexed ∙ ap (λ (ts : List Tok). ts ++ tokens_past 0 rest line (column + length text)) same;
    }

open_len : (b : ℕ) (rest : List ℕ) → IsOpening b → StopsSign rest → sign_len b rest ≡ 1
unfolding sign_len
open_len b [] h s = rw h.short refl
open_len b (c ∷ rest) h s = rw (h.alone c s, h.short) refl

open_first : (b : ℕ) (rest : List ℕ) (line column : ℕ) → IsOpening b → StopsSign rest →
    IsFirst (b ∷ []) rest line column
unfolding tokens_past tail_len
open_first b rest line column h s =
    let len = open_len b rest h s in
    let k : kind_of b rest ≡ Sign = rw (h.no_letter, h.no_digit, len) refl in
    let n : tail_len b rest ≡ 0 = rw (h.no_letter, h.no_digit, len) refl in
    record {
      token = tok Sign (b ∷ []) line column;
      is = refl;
      lexed = rw (h.stands.0, h.stands.1, h.stands.2, k, n) refl;
    }

token_first : (e : Edge) (w rest : List ℕ) (line column : ℕ) → IsToken e w → Stops e rest → IsFirst w rest line column
token_first Wordy w rest line column h s = from_one Word w rest line column ((word_written w h).at rest line column s)
token_first Apart [] rest line column h s = absurd h
token_first Apart (b ∷ []) rest line column h s =
    from_one Sign (b ∷ []) rest line column ((short_written b h).at rest line column tt)
token_first Apart (b ∷ c ∷ []) rest line column h s =
    from_one Sign (b ∷ c ∷ []) rest line column ((long_written b c h).at rest line column tt)
token_first Apart (b ∷ c ∷ d ∷ w) rest line column h s = absurd h
token_first Open [] rest line column h s = absurd h
token_first Open (b ∷ []) rest line column h s = open_first b rest line column h s
token_first Open (b ∷ c ∷ w) rest line column h s = absurd h

-- ---- what stops a token

sign_stops : (e : Edge) (w more : List ℕ) → IsToken e w → is_word w ≡ false → StopsWord (w ++ more)
sign_stops Wordy w more h k = absurd (no_both (is_word w) h k)
sign_stops Apart [] more h k = absurd h
sign_stops Apart (b ∷ []) more h k = rw (h.no_letter, h.no_digit) refl
sign_stops Apart (b ∷ c ∷ []) more h k = rw (h.no_letter, h.no_digit) refl
sign_stops Apart (b ∷ c ∷ d ∷ w) more h k = absurd h
sign_stops Open [] more h k = absurd h
sign_stops Open (b ∷ []) more h k = rw (h.no_letter, h.no_digit) refl
sign_stops Open (b ∷ c ∷ w) more h k = absurd h

letter_stops : (b : ℕ) → is_letter b ≡ true → goes_further b ≡ false
letter_stops b h = grind (arith, nat_tests)

digit_stops : (b : ℕ) → is_digit b ≡ true → goes_further b ≡ false
digit_stops b h = grind (arith, nat_tests)

further_stops : (w more : List ℕ) → IsToken (edge_of_word w) w → not (begins_further w) ≡ true → StopsSign (w ++ more)
further_stops [] more h k = absurd h
further_stops (b ∷ bs) more h k = not_true (goes_further b) k

name_stops : (w more : List ℕ) → is_word w ≡ true → StopsSign (w ++ more)
name_stops [] more h = absurd cc
name_stops (b ∷ bs) more h = letter_stops b (and_first (is_letter b) (list_all is_word_byte bs) h)

digits_stop : (w more : List ℕ) → are_digits w ≡ true → StopsSign (w ++ more)
digits_stop [] more h = absurd cc
digits_stop (b ∷ bs) more h = digit_stops b (and_first (is_digit b) (list_all is_digit bs) h)

no_true : false ≡ true → ⊥
no_true e = cc

module _ (bound : ℕ) (small : bound < 2 ^ 64) (names : List (List ℕ)) where
  head_stops : (e : Edge) (i : Ink) (more : List ℕ) → may_follow e i ≡ true → IsSound bound names i →
      Stops e (ink_text names i ++ more)
  head_stops Apart i more h k = tt
  head_stops Wordy (Says w) more h k = sign_stops (edge_of_word w) w more k.0 (not_true (is_word w) h)
  head_stops Wordy (Name i) more h k = absurd (no_true h)
  head_stops Wordy (Number n) more h k = absurd (no_true h)
  head_stops Wordy Blank more h k = refl
  head_stops Wordy Feed more h k = refl
  head_stops Open (Says w) more h k = further_stops w more k.0 h
  head_stops Open (Name i) more h k = name_stops (name_text names i) more (name_word (name_text names i) k.0)
  head_stops Open (Number n) more h k =
      let k0 : n ≤ bound = k in
      let h0 : n < 2 ^ 64 = omega (arith, k0, small) in
      digits_stop (decimal n) more (decimal_are_digits n h0)
  head_stops Open Blank more h k = refl
  head_stops Open Feed more h k = refl

  abbrev T : List Ink → List ℕ
  T is = inks_text names is

  inks_stop : (P : Before → Edge → Type 0) (is : List Ink) (b : Before) (e : Edge) (rest : List ℕ) →
      Walks bound names b e is P → Stops (last_edge bound names e is) rest → Stops e (T is ++ rest)
  inks_stop P [] b e rest h s = s
  inks_stop P (i ∷ is) b e rest h s = subst (λ (z : List ℕ). Stops e z)
      (sym (append_assoc (ink_text names i) (T is) rest)) (head_stops e i (T is ++ rest) h.0 h.1)

  -- ---- whole texts

  -- the tokens, one for each ink but blanks and ends of lines
  abbrev pub HaveTexts : List Ink → List Tok → Type 0
  HaveTexts [] ts = ts ≡ []
  HaveTexts (Blank ∷ is) ts = HaveTexts is ts
  HaveTexts (Feed ∷ is) ts = HaveTexts is ts
  HaveTexts (Says w ∷ is) ts = (t : Tok) × (more : List Tok) × (ts ≡ t ∷ more) × (t.text ≡ w) × HaveTexts is more
  HaveTexts (Name i ∷ is) ts =
      (t : Tok) × (more : List Tok) × (ts ≡ t ∷ more) × (t.text ≡ name_text names i) × HaveTexts is more
  HaveTexts (Number n ∷ is) ts =
      (t : Tok) × (more : List Tok) × (ts ≡ t ∷ more) × (t.text ≡ decimal n) × HaveTexts is more

  pub record IsLexedAs (is : List Ink) (rest : List ℕ) (line column : ℕ) : Type 0 where
    pub tokens : List Tok
    pub next : ℕ
    pub place : ℕ
    pub ordered : line ≤ next
    pub lexed : tokens_past 0 (T is ++ rest) line column ≡ tokens ++ tokens_past 0 rest next place
    pub texts : HaveTexts is tokens

  blank_step : (text : List ℕ) (line column : ℕ) →
      tokens_past 0 (codes " " ++ text) line column ≡ tokens_past 0 text line (column + 1)
  unfolding tokens_past
  blank_step text line column = refl

  feed_step : (text : List ℕ) (line column : ℕ) →
      tokens_past 0 (codes "\n" ++ text) line column ≡ tokens_past 0 text (line + 1) 1
  unfolding tokens_past
  feed_step text line column = refl

  next_lexed : (text : List ℕ) (is : List Ink) (rest : List ℕ) (line column : ℕ) (f : IsFirst text (T is ++ rest) line
      column)
      (k : IsLexedAs is rest line (column + length text)) →
      tokens_past 0 ((text ++ T is) ++ rest) line column ≡ f.token ∷ (k.tokens ++ tokens_past 0 rest k.next k.place)
  next_lexed text is rest line column f k =
      ap (λ (z : List ℕ). tokens_past 0 z line column) (append_assoc text (T is) rest) ∙ f.lexed
      ∙ ap (λ (ts : List Tok). f.token ∷ ts) k.lexed

  -- the tokens behind that of an ink, with it
  lexed_behind : (i : Ink) (is : List Ink) (rest : List ℕ) (line column : ℕ)
      (f : IsFirst (ink_text names i) (T is ++ rest) line column)
      (k : IsLexedAs is rest line (column + length (ink_text names i))) →
      ((t : Tok) (ts : List Tok) → t.text ≡ ink_text names i → HaveTexts is ts → HaveTexts (i ∷ is) (t ∷ ts)) →
      IsLexedAs (i ∷ is) rest line column
  lexed_behind i is rest line column f k joins = record {
    tokens = f.token ∷ k.tokens;
    next = k.next;
    place = k.place;
    ordered = k.ordered;
    lexed = next_lexed (ink_text names i) is rest line column f k;
    texts = joins f.token k.tokens f.is k.texts;
  }

  pub lexes : (P : Before → Edge → Type 0) (is : List Ink) (b : Before) (e : Edge) (rest : List ℕ) (line column : ℕ) →
      Walks bound names b e is P → Stops (last_edge bound names e is) rest → IsLexedAs is rest line column
  lexes P [] b e rest line column h s =
      record { tokens = []; next = line; place = column; ordered = itself line; lexed = refl; texts = refl }
  lexes P (Blank ∷ is) b e rest line column h s =
      let k = lexes P is b Apart rest line (column + 1) h.2 s in
      record {
        tokens = k.tokens;
        next = k.next;
        place = k.place;
        ordered = k.ordered;
        lexed = blank_step (T is ++ rest) line column ∙ k.lexed;
        texts = k.texts;
      }
  lexes P (Feed ∷ is) b e rest line column h s =
      let k = lexes P is b Apart rest (line + 1) 1 h.2 s in
      record {
        tokens = k.tokens;
        next = k.next;
        place = k.place;
        ordered = let o = k.ordered in omega (arith, o);
        lexed = feed_step (T is ++ rest) line column ∙ k.lexed;
        texts = k.texts;
      }
  lexes P (Says w ∷ is) b e rest line column h s =
      let d = after_ink bound names b (Says w) in
      let f = token_first (edge_of_word w) w (T is ++ rest) line column h.1.0
      (inks_stop P is d (edge_of_word w) rest h.2 s) in
      let k = lexes P is d (edge_of_word w) rest line (column + length w) h.2 s in
      lexed_behind (Says w) is rest line column f k (λ t ts q m. (t, ts, refl, q, m))
  lexes P (Name i ∷ is) b e rest line column h s =
      let w = name_text names i in
      let d = after_ink bound names b (Name i) in
      let f = token_first Wordy w (T is ++ rest) line column (name_word w h.1.0) (inks_stop P is d Wordy rest h.2 s) in
      let k = lexes P is d Wordy rest line (column + length w) h.2 s in
      lexed_behind (Name i) is rest line column f k (λ t ts q m. (t, ts, refl, q, m))
  lexes P (Number n ∷ is) b e rest line column h s =
      let w = decimal n in
      let d = after_ink bound names b (Number n) in
      let k0 : n ≤ bound = h.1 in
      let h0 : n < 2 ^ 64 = omega (arith, k0, small) in
      let f = from_one Digits w (T is ++ rest) line column
      ((digits_written n h0).at (T is ++ rest) line column (inks_stop P is d Wordy rest h.2 s)) in
      let k = lexes P is d Wordy rest line (column + length w) h.2 s in
      lexed_behind (Number n) is rest line column f k (λ t ts q m. (t, ts, refl, q, m))
