-- Texts that are put together from written tokens are read as what they were put together from.
use Rattle.std.proofs.Common.{◌≡◌, ◌≤◌, ◌<◌, ◌+◌, ◌^◌, ℕ, Bool, true, false, List, [], ◌∷◌, ◌++◌, codes, Result, Ok, refl, sym, ap, subst, arith, append-nil, ◌∙◌}
use Rattle.std.specs.Prelude.{decimal}
use Rattle.std.specs.Str.{bytes_eq}
use Rattle.std.specs.Str.Parse.{AllDigits}
use Rattle.std.proofs.lemmas.Bool.{le-leb}
use Rattle.std.proofs.lemmas.Slice.Eq.{bytes_eq-Decides}
use Rattle.std.proofs.lemmas.Str.Parse.{digit_from_value}
use Rattle.std.proofs.lemmas.Fmt.{decimal_is_IsNumeral}
use Rattle.trop_grammar.specs.Grammar.{One, Then}
use Rattle.trop_grammar.specs.Lists.{Passes}
use Rattle.trop_text.specs.Digits.{number_of}
use Rattle.trop_text.specs.Pieces.{Piece, Token}
use Rattle.trop_text.specs.declared.token.TokenKind.TheVariants.{Digits, Sign}
use Rattle.trop_text.specs.declared.fault.FaultKind.{FaultKind}
use Rattle.trop_text.specs.Tokens.{tokens_past}
use Rattle.trop_text.proofs.Numbers.{number_of-decimal}
use Rattle.trop_text.proofs.Written.{tok, IsOne, IsLexed, IsWritten, written_join, written_as}
use Rattle.trop_text.proofs.WrittenTokens.{Always, IsShort, short_written}
use Rattle.trop_reading.specs.Words.{said, number}

-- ---- texts of grammars

-- no text
pub none_written : {S : List ℕ → Type 0} {G : List Piece → Type 0} → G [] → IsWritten S [] G
none_written {S} {G} is = record { at = at }
  where
    at : (rest : List ℕ) (line column : ℕ) → S rest → IsLexed [] rest line column G
    at rest line column stops =
        let place : column ≡ column + 0 = omega arith in
        record { tokens = []; lexed = ap (λ c. tokens_past 0 rest line c) place; on = tt; is = is }

-- a text of R, and then one of S
pub written_then : {A B : Type 0} {R : List Piece → A → Type 0} {S : A → List Piece → B → Type 0}
    {Stops StopsMore : List ℕ → Type 0} (x : A) (y : B) (text more : List ℕ) →
    ((rest : List ℕ) → StopsMore rest → Stops (more ++ rest))
    → IsWritten Stops text (λ us. R us x) → IsWritten StopsMore more (λ us. S x us y) →
    IsWritten StopsMore (text ++ more) (λ us. Then R S us y)
written_then x y text more stops r s = written_join
    (λ us vs g h. record { front = us; back = vs; value = x; whole = refl; first = g; second = h }) stops r s

-- a text of R, and behind it no token
pub written_last : {A B : Type 0} {R : List Piece → A → Type 0} {S : A → List Piece → B → Type 0}
    {Stops : List ℕ → Type 0} {text : List ℕ} (x : A) (y : B) → S x [] y → IsWritten Stops text (λ us. R us x) →
    IsWritten Stops text (λ us. Then R S us y)
written_last x y s r = written_as (λ us g. record {
  front = us;
  back = [];
  value = x;
  whole =
      sym (append-nil us);
  first = g;
  second = s;
}) (λ rest h. h) r

-- a token that the judge lets pass
pub written_token : {A : Type 0} {judge : Piece → Result A FaultKind} {Stops : List ℕ → Type 0} {text : List ℕ}
    (kind : _) (x : A) → ((line column : ℕ) → judge (Token (tok kind text line column)) ≡ Ok x) →
    IsWritten Stops text (IsOne kind text) → IsWritten Stops text (λ us. One (Passes judge) us x)
written_token {text = text} kind x passes one = written_as
    (λ us g. record { token = Token (tok kind text g.line g.column); whole = g.whole; is = passes g.line g.column })
    (λ rest h. h) one

-- ---- signs that stand alone

pub minus_alone : IsShort 45
minus_alone = record { stands = (refl, refl, refl); no_letter = refl; no_digit = refl; short = refl; alone = λ c. refl }

pub open_alone : IsShort 91
open_alone = record { stands = (refl, refl, refl); no_letter = refl; no_digit = refl; short = refl; alone = λ c. refl }

pub close_alone : IsShort 93
close_alone = record { stands = (refl, refl, refl); no_letter = refl; no_digit = refl; short = refl; alone = λ c. refl }

pub comma_alone : IsShort 44
comma_alone = record { stands = (refl, refl, refl); no_letter = refl; no_digit = refl; short = refl; alone = λ c. refl }

-- a sign of one byte, as it is said
pub sign_said : (b : ℕ) → IsShort b → IsWritten Always (b ∷ []) (λ us. One (Passes (said (b ∷ []))) us tt)
sign_said b is =
    let same : bytes_eq (b ∷ []) (b ∷ []) ≡ true = (bytes_eq-Decides (b ∷ []) (b ∷ [])).1 refl in
    written_as (λ us g. record {
      token = Token (tok Sign (b ∷ []) g.line g.column);
      whole = g.whole;
      is =
          rw same refl;
    }) (λ rest h. tt) (short_written b is)

-- ---- numbers

apart : (s t : List ℕ) → (s ≡ t → ⊥) → bytes_eq s t ≡ false
apart s t h = by (bytes_eq s t) refl
  where
    by : (b : Bool) → bytes_eq s t ≡ b → bytes_eq s t ≡ false
    by false e = e
    by true e = absurd (h ((bytes_eq-Decides s t).0 e))

first_digit : (n c : ℕ) (ds : List ℕ) → n < 2 ^ 64 → decimal n ≡ c ∷ ds → (48 ≤ c) × (c < 58)
first_digit n c ds h e =
    let range = digit_from_value c (subst (AllDigits 10) e (decimal_is_IsNumeral n h).0.1).0 in
    (omega (arith, range), omega (arith, range))

-- digits are neither the sign of a number nor a word
pub no_minus : (n : ℕ) → n < 2 ^ 64 → bytes_eq (decimal n) (codes "-") ≡ false
no_minus n h = apart (decimal n) (codes "-") (λ e. let d = first_digit n 45 [] h e in absurd (omega (arith, d.0)))

pub no_infinity : (n : ℕ) → n < 2 ^ 64 → bytes_eq (decimal n) (codes "oo") ≡ false
no_infinity n h = apart (decimal n) (codes "oo") (λ e. let d = first_digit n 111 (111 ∷ []) h e in
    absurd (omega (arith, d.1)))

-- a printed number passes with its value
pub number_passes : (n bound line column : ℕ) → n ≤ bound → n < 2 ^ 64 →
    number bound (Token (tok Digits (decimal n) line column)) ≡ Ok n
unfolding number
number_passes n bound line column le h =
    let is = decimal_is_IsNumeral n h in
    let value : number_of (decimal n) ≡ n = number_of-decimal (decimal n) is.0.1 ∙ is.1 in
    rw (value, le-leb n bound le) refl
