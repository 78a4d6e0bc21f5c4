-- The token with which bytes begin is the longest that fits.
-- Index: all_in_prefix, prefix_is_longest, Fits, all_imply, word_fits, digits_fit, token_fits.
use Rattle.std.proofs.Common.{◌≡◌, ◌≢◌, ◌≤◌, ◌+◌, ◌-◌, ◌⊎◌, inl, inr, ℕ, suc, Bool, true, false, ◌||◌, if◌then◌else◌, List, [], ◌∷◌, ◌++◌, length, take, drop, refl, sym, ap, ◌∙◌, subst, arith, nat_eq, true≢false}
use Rattle.std.proofs.lemmas.Bool.{or_left, or_right}
use Rattle.std.proofs.lemmas.List.{take-append-drop}
use Rattle.std.proofs.lemmas.List.Folds.{length-prefix_len}
use Rattle.std.proofs.lemmas.Bool.Decides.{nat_tests}
use Rattle.std.specs.List.{list_all, prefix_len}
use Rattle.trop_text.specs.Bytes.{is_letter, is_digit, is_word_byte, is_line_feed, is_hash}
use Rattle.trop_text.specs.Name.{is_word}
use Rattle.trop_text.specs.Tokens.{is_long_sign, is_short_sign, sign_len, kind_of, tail_len}
use Rattle.trop_text.specs.Lexed.{is_sign, are_digits, is_token_text, IsLongest}
use Rattle.trop_text.specs.declared.token.TokenKind.{TokenKind}
use Rattle.trop_text.specs.declared.token.TokenKind.TheVariants.{Word, Digits, Sign, Bad}
use Rattle.trop_text.proofs.Signs.{or_cases, and_both, and_first, and_second, is_plain, sign_begins_with_no_letter, sign_begins_with_no_digit, sign_of_one, sign_of_more, long_is_sign, short_is_sign, sign_is_plain}

-- ---- the bytes from the front on that pass a test

module _ (p : ℕ → Bool) where
  pub all_in_prefix : (xs : List ℕ) → list_all p (take (prefix_len p xs) xs) ≡ true
  all_in_prefix [] = refl
  all_in_prefix (x ∷ xs) = by (p x) refl (all_in_prefix xs)
    where
      by : (b : Bool) → p x ≡ b → list_all p (take (prefix_len p xs) xs) ≡ true →
          list_all p (take (prefix_len p (x ∷ xs)) (x ∷ xs)) ≡ true
      by true e rest =
          let n : 1 + prefix_len p xs ≡ suc (prefix_len p xs) = omega arith in
          rw (e, n) (and_both (p x) (list_all p (take (prefix_len p xs) xs)) e rest)
      by false e rest = rw e refl

  pub prefix_is_longest : (front back : List ℕ) → list_all p front ≡ true → length front ≤ prefix_len p (front ++ back)
  prefix_is_longest [] back h = omega arith
  prefix_is_longest (x ∷ xs) back h =
      let more = prefix_is_longest xs back (and_second (p x) (list_all p xs) h) in
      rw (and_first (p x) (list_all p xs) h) (omega arith)

-- ---- token texts by their first byte

not_both : (b : ℕ) → is_letter b ≡ true → is_digit b ≡ true → ⊥
not_both b h k = grind (arith, nat_tests)

clash : {A : Type 0} {b : Bool} → b ≡ true → b ≡ false → A
clash h k = absurd (true≢false (sym h ∙ k))

no_token_is_empty : is_token_text [] ≡ true → ⊥
no_token_is_empty h = true≢false (sym h)

-- a token text that begins with a letter is a word
word_by_letter : (b : ℕ) (bs : List ℕ) → is_letter b ≡ true → is_token_text (b ∷ bs) ≡ true →
    list_all is_word_byte bs ≡ true
word_by_letter b bs letter h = by (or_cases (is_word (b ∷ bs) || are_digits (b ∷ bs)) (is_sign (b ∷ bs)) h)
  where
    early : (is_word (b ∷ bs) ≡ true) ⊎ (are_digits (b ∷ bs) ≡ true) → list_all is_word_byte bs ≡ true
    early (inl word) = and_second (is_letter b) (list_all is_word_byte bs) word
    early (inr digits) = absurd (not_both b letter (and_first (is_digit b) (list_all is_digit bs) digits))

    by : ((is_word (b ∷ bs) || are_digits (b ∷ bs)) ≡ true) ⊎ (is_sign (b ∷ bs) ≡ true) →
        list_all is_word_byte bs ≡ true
    by (inl e) = early (or_cases (is_word (b ∷ bs)) (are_digits (b ∷ bs)) e)
    by (inr sign) = clash letter (sign_begins_with_no_letter b bs sign)

-- one that begins with a digit is of digits
digits_by_digit : (b : ℕ) (bs : List ℕ) → is_letter b ≡ false → is_digit b ≡ true → is_token_text (b ∷ bs) ≡ true →
    list_all is_digit bs ≡ true
digits_by_digit b bs no_letter digit h = by (or_cases (is_word (b ∷ bs) || are_digits (b ∷ bs)) (is_sign (b ∷ bs)) h)
  where
    early : (is_word (b ∷ bs) ≡ true) ⊎ (are_digits (b ∷ bs) ≡ true) → list_all is_digit bs ≡ true
    early (inl word) = clash (and_first (is_letter b) (list_all is_word_byte bs) word) no_letter
    early (inr digits) = and_second (is_digit b) (list_all is_digit bs) digits

    by : ((is_word (b ∷ bs) || are_digits (b ∷ bs)) ≡ true) ⊎ (is_sign (b ∷ bs) ≡ true) → list_all is_digit bs ≡ true
    by (inl e) = early (or_cases (is_word (b ∷ bs)) (are_digits (b ∷ bs)) e)
    by (inr sign) = clash digit (sign_begins_with_no_digit b bs sign)

-- any other is a sign
sign_by_others : (b : ℕ) (bs : List ℕ) → is_letter b ≡ false → is_digit b ≡ false → is_token_text (b ∷ bs) ≡ true →
    is_sign (b ∷ bs) ≡ true
sign_by_others b bs no_letter no_digit h = by (or_cases (is_word (b ∷ bs) || are_digits (b ∷ bs)) (is_sign (b ∷ bs)) h)
  where
    early : (is_word (b ∷ bs) ≡ true) ⊎ (are_digits (b ∷ bs) ≡ true) → is_sign (b ∷ bs) ≡ true
    early (inl word) = clash (and_first (is_letter b) (list_all is_word_byte bs) word) no_letter
    early (inr digits) = clash (and_first (is_digit b) (list_all is_digit bs) digits) no_digit

    by : ((is_word (b ∷ bs) || are_digits (b ∷ bs)) ≡ true) ⊎ (is_sign (b ∷ bs) ≡ true) → is_sign (b ∷ bs) ≡ true
    by (inl e) = early (or_cases (is_word (b ∷ bs)) (are_digits (b ∷ bs)) e)
    by (inr sign) = sign

-- ---- the longest

-- P holds of the length of each token text with which the bytes b ∷ bs begin
abbrev Fronts : ℕ → List ℕ → (ℕ → Type 0) → Type 0
Fronts b bs P = (fs back : List ℕ) → bs ≡ fs ++ back → is_token_text (b ∷ fs) ≡ true → P (length fs + 1)

at_fronts : (b : ℕ) (bs : List ℕ) (P : ℕ → Type 0) → Fronts b bs P → (front back : List ℕ) → b ∷ bs ≡ front ++ back →
    is_token_text front ≡ true → P (length front)
at_fronts b bs P h [] back e is = absurd (no_token_is_empty is)
at_fronts b bs P h (c ∷ fs) back e is =
    let first : b ≡ c = cc in
    let others : bs ≡ fs ++ back = cc in
    let n : length fs + 1 ≡ length (c ∷ fs) = omega arith in
    subst P n (h fs back others (subst (λ x. is_token_text (x ∷ fs) ≡ true) (sym first) is))

-- a token of this kind that is the longest, and whose bytes are of one line and of no comment
pub record Fits (kind : TokenKind) (text after : List ℕ) : Type 0 where
  pub longest : IsLongest kind text after
  pub plain : list_all is_plain text ≡ true

pub all_imply : (p q : ℕ → Bool) → ((b : ℕ) → p b ≡ true → q b ≡ true) → (xs : List ℕ) → list_all p xs ≡ true →
    list_all q xs ≡ true
all_imply p q h [] all = refl
all_imply p q h (x ∷ xs) all =
    and_both (q x) (list_all q xs) (h x (and_first (p x) (list_all p xs) all))
    (all_imply p q h xs (and_second (p x) (list_all p xs) all))

word_byte_is_plain : (b : ℕ) → is_word_byte b ≡ true → is_plain b ≡ true
word_byte_is_plain b h = grind (arith, nat_tests)

letter_is_word_byte : (b : ℕ) → is_letter b ≡ true → is_word_byte b ≡ true
letter_is_word_byte b h = or_left (is_letter b) (is_digit b) h

digit_is_word_byte : (b : ℕ) → is_digit b ≡ true → is_word_byte b ≡ true
digit_is_word_byte b h = or_right (is_letter b) (is_digit b) h

not_bad : Word ≢ Bad
not_bad e = cc

digits_not_bad : Digits ≢ Bad
digits_not_bad e = cc

sign_not_bad : Sign ≢ Bad
sign_not_bad e = cc

module _ (p : ℕ → Bool) (bs : List ℕ) where
  whole_run : take (prefix_len p bs) bs ++ drop (prefix_len p bs) bs ≡ bs
  whole_run = take-append-drop (prefix_len p bs) bs

  -- what passes the test in front of them is no longer than the run
  within_run : (fs back : List ℕ) → bs ≡ fs ++ back → list_all p fs ≡ true →
      length fs + 1 ≤ length (take (prefix_len p bs) bs) + 1
  within_run fs back e all =
      let n = length-prefix_len p bs in
      let le = prefix_is_longest p fs back all in
      let same : prefix_len p (fs ++ back) ≡ prefix_len p bs = ap (prefix_len p) (sym e) in
      omega arith

pub word_fits : (b : ℕ) (bs : List ℕ) → is_letter b ≡ true →
    Fits Word (b ∷ take (prefix_len is_word_byte bs) bs) (drop (prefix_len is_word_byte bs) bs)
word_fits b bs letter =
    let tail = take (prefix_len is_word_byte bs) bs in
    let all = all_in_prefix is_word_byte bs in
    record {
      longest = record {
        is = and_both (is_letter b) (list_all is_word_byte tail) letter all;
        longest = at_fronts b (tail ++ drop (prefix_len is_word_byte bs) bs)
            (λ n. (Word ≢ Bad) × (n ≤ length (b ∷ tail)))
            (λ fs back e is. (
              not_bad,
              let le = within_run is_word_byte bs fs back (sym (whole_run is_word_byte bs) ∙ e)
                  (word_by_letter b fs letter is) in omega arith,
            ));
      };
      plain = all_imply is_word_byte is_plain word_byte_is_plain (b ∷ tail)
          (and_both (is_word_byte b) (list_all is_word_byte tail) (letter_is_word_byte b letter) all);
    }

pub digits_fit : (b : ℕ) (bs : List ℕ) → is_letter b ≡ false → is_digit b ≡ true →
    Fits Digits (b ∷ take (prefix_len is_digit bs) bs) (drop (prefix_len is_digit bs) bs)
digits_fit b bs no_letter digit =
    let tail = take (prefix_len is_digit bs) bs in
    let all = and_both (is_digit b) (list_all is_digit tail) digit (all_in_prefix is_digit bs) in
    record {
      longest = record {
        is = all;
        longest = at_fronts b (tail ++ drop (prefix_len is_digit bs) bs) (λ n. (Digits ≢ Bad) × (n ≤ length (b ∷ tail)))
            (λ fs back e is. (
              digits_not_bad,
              let le =
                  within_run is_digit bs fs back (sym (whole_run is_digit bs) ∙ e)
                  (digits_by_digit b fs no_letter digit is) in omega arith,
            ));
      };
      plain = all_imply is_digit is_plain (λ d h. word_byte_is_plain d (digit_is_word_byte d h)) (b ∷ tail) all;
    }

-- ---- signs

-- b and the next byte are no sign together
abbrev NoLong : ℕ → List ℕ → Type 0
NoLong b [] = Unit {0}
NoLong b (c ∷ bs) = is_long_sign b c ≡ false

only_one : (b : ℕ) (bs fs back : List ℕ) → NoLong b bs → bs ≡ fs ++ back → is_sign (b ∷ fs) ≡ true → fs ≡ []
only_one b bs [] back none e is = refl
only_one b [] (d ∷ gs) back none e is = absurd cc
only_one b (c ∷ bs) (d ∷ gs) back none e is =
    let same : d ≡ c = cc in
    clash (subst (λ x. is_long_sign b x ≡ true) same (sign_of_more b d gs is).1) none

module _ (b : ℕ) (no_letter : is_letter b ≡ false) (no_digit : is_digit b ≡ false) where
  short_fits : (bs : List ℕ) → is_short_sign b ≡ true → NoLong b bs → Fits Sign (b ∷ []) bs
  short_fits bs short none =
      let sign = short_is_sign b short in
      record {
        longest = record {
          is = sign;
          longest = at_fronts b bs (λ n. (Sign ≢ Bad) × (n ≤ length (b ∷ [])))
              (λ fs back e is. (
                sign_not_bad,
                let one =
                    ap length (only_one b bs fs back none e (sign_by_others b fs no_letter no_digit is)) in omega arith,
              ));
        };
        plain = sign_is_plain (b ∷ []) sign;
      }

  within_two : (fs : List ℕ) → is_sign (b ∷ fs) ≡ true → length fs + 1 ≤ 2
  within_two [] is = omega arith
  within_two (d ∷ gs) is = let none = ap length (sign_of_more b d gs is).0 in omega arith

  long_fits : (c : ℕ) (bs : List ℕ) → is_long_sign b c ≡ true → Fits Sign (b ∷ c ∷ []) bs
  long_fits c bs long =
      let sign = long_is_sign b c long in
      record {
        longest = record {
          is = sign;
          longest = at_fronts b (c ∷ bs) (λ n. (Sign ≢ Bad) × (n ≤ length (b ∷ c ∷ [])))
              (λ fs back e is. (
                sign_not_bad,
                let two = within_two fs (sign_by_others b fs no_letter no_digit is) in
                    omega arith,
              ));
        };
        plain = sign_is_plain (b ∷ c ∷ []) sign;
      }

  no_sign : (bs fs back : List ℕ) → is_short_sign b ≡ false → NoLong b bs → bs ≡ fs ++ back →
      is_token_text (b ∷ fs) ≡ true → ⊥
  no_sign bs fs back short none e is =
      let sign = sign_by_others b fs no_letter no_digit is in
      clash (sign_of_one b (subst (λ xs. is_sign (b ∷ xs) ≡ true) (only_one b bs fs back none e sign) sign)) short

  bad_fits : (bs : List ℕ) → is_short_sign b ≡ false → NoLong b bs → is_plain b ≡ true → Fits Bad (b ∷ []) bs
  bad_fits bs short none plain = record {
    longest = record {
      is = refl;
      longest = at_fronts b bs (λ n. (Bad ≢ Bad) × (n ≤ length (b ∷ [])))
          (λ fs back e is. absurd (no_sign bs fs back short none e is));
    };
    plain = and_both (is_plain b) true plain refl;
  }

  abbrev SignKind : ℕ → TokenKind
  SignKind n = if nat_eq n 0 then Bad else Sign

  alone_fits : (s : Bool) (bs : List ℕ) → is_short_sign b ≡ s → NoLong b bs → is_plain b ≡ true
      → Fits (SignKind (if s then 1 else 0)) (b ∷ take ((if s then 1 else 0) - 1) bs)
      (drop ((if s then 1 else 0) - 1) bs)
  alone_fits true bs e none plain = short_fits bs e none
  alone_fits false bs e none plain = bad_fits bs e none plain

  next_fits : (l s : Bool) (c : ℕ) (bs : List ℕ) → is_long_sign b c ≡ l → is_short_sign b ≡ s → is_plain b ≡ true
      → Fits (SignKind (if l then 2 else (if s then 1 else 0)))
      (b ∷ take ((if l then 2 else (if s then 1 else 0)) - 1) (c ∷ bs))
      (drop ((if l then 2 else (if s then 1 else 0)) - 1) (c ∷ bs))
  next_fits true s c bs e k plain = long_fits c bs e
  next_fits false s c bs e k plain = alone_fits s (c ∷ bs) k e plain

  sign_fits : (bs : List ℕ) → is_plain b ≡ true → Fits (SignKind (sign_len b bs)) (b ∷ take (sign_len b bs - 1) bs)
      (drop (sign_len b bs - 1) bs)
  unfolding sign_len
  sign_fits [] plain = alone_fits (is_short_sign b) [] refl tt plain
  sign_fits (c ∷ bs) plain = next_fits (is_long_sign b c) (is_short_sign b) c bs refl refl plain

plain_byte : (b : ℕ) → is_line_feed b ≡ false → is_hash b ≡ false → is_plain b ≡ true
plain_byte b h k = rw (h, k) refl

-- ---- all kinds

pub token_fits : (b : ℕ) (bs : List ℕ) → is_line_feed b ≡ false → is_hash b ≡ false →
    Fits (kind_of b bs) (b ∷ take (tail_len b bs) bs) (drop (tail_len b bs) bs)
unfolding tail_len
token_fits b bs no_feed no_hash = by (is_letter b) (is_digit b) refl refl
  where
    by : (l d : Bool) → is_letter b ≡ l → is_digit b ≡ d →
        Fits (kind_of b bs) (b ∷ take (tail_len b bs) bs) (drop (tail_len b bs) bs)
    by true d e k = rw e (word_fits b bs e)
    by false true e k = rw (e, k) (digits_fit b bs e k)
    by false false e k = rw (e, k) (sign_fits b e k bs (plain_byte b no_feed no_hash))
