-- What all signs have in common.
use Rattle.std.proofs.Common.{◌≡◌, ◌⊎◌, inl, inr, ℕ, Bool, true, false, ◌||◌, ◌&&◌, not, List, [], ◌∷◌, length, refl, sym, ap, ◌∙◌, subst, arith, nat_eq, true≢false}
use Rattle.std.proofs.lemmas.Slice.Eq.{bytes_eq-Decides}
use Rattle.std.proofs.lemmas.Bool.{or_left, or_right}
use Rattle.std.proofs.lemmas.Bool.Decides.{Decides-eqb}
use Rattle.std.specs.List.{list_any, list_all}
use Rattle.std.specs.Str.{bytes_eq}
use Rattle.trop_text.specs.Bytes.{is_letter, is_digit, is_in_line, is_hash}
use Rattle.trop_text.specs.Tokens.{long_signs, short_signs, is_long_sign, is_short_sign}
use Rattle.trop_text.specs.Lexed.{is_sign}

-- one or the other is true
pub or_cases : (a b : Bool) → (a || b) ≡ true → (a ≡ true) ⊎ (b ≡ true)
or_cases true b h = inl refl
or_cases false b h = inr h

pub and_both : (a b : Bool) → a ≡ true → b ≡ true → (a && b) ≡ true
and_both true b h k = k
and_both false b h k = h

pub and_first : (a b : Bool) → (a && b) ≡ true → a ≡ true
and_first true b h = refl
and_first false b h = h

pub and_second : (a b : Bool) → (a && b) ≡ true → b ≡ true
and_second true b h = h
and_second false b h = absurd (true≢false (sym h))

-- a text among others has what all of them have
pub shared : (q : List ℕ → Bool) (texts : List (List ℕ)) (text : List ℕ) → list_all q texts ≡ true →
    list_any (bytes_eq text) texts ≡ true → q text ≡ true
shared q [] text all any = absurd (true≢false (sym any))
shared q (t ∷ ts) text all any = by (shared q ts text (and_second (q t) (list_all q ts) all))
    (or_cases (bytes_eq text t) (list_any (bytes_eq text) ts) any)
  where
    by : (list_any (bytes_eq text) ts ≡ true → q text ≡ true) →
        (bytes_eq text t ≡ true) ⊎ (list_any (bytes_eq text) ts ≡ true) → q text ≡ true
    by later (inl here) = ap q ((bytes_eq-Decides text t).0 here) ∙ and_first (q t) (list_all q ts) all
    by later (inr there) = later there

has_length : ℕ → List ℕ → Bool
has_length n text = nat_eq (length text) n

-- no sign begins with a letter or a digit
begins_apart : List ℕ → Bool
begins_apart [] = false
begins_apart (b ∷ bs) = not (is_letter b) && not (is_digit b)

-- a byte that neither ends a line nor begins a comment
abbrev pub is_plain : ℕ → Bool
is_plain b = is_in_line b && not (is_hash b)

short_length : (text : List ℕ) → list_any (bytes_eq text) short_signs ≡ true → length text ≡ 1
unfolding has_length
short_length text h = (Decides-eqb (length text) 1).0 (shared (has_length 1) short_signs text refl h)

long_length : (text : List ℕ) → list_any (bytes_eq text) long_signs ≡ true → length text ≡ 2
unfolding has_length
long_length text h = (Decides-eqb (length text) 2).0 (shared (has_length 2) long_signs text refl h)

sign_begins_apart : (text : List ℕ) → is_sign text ≡ true → begins_apart text ≡ true
unfolding begins_apart
sign_begins_apart text h = by (or_cases (list_any (bytes_eq text) long_signs) (list_any (bytes_eq text) short_signs) h)
  where
    by : (list_any (bytes_eq text) long_signs ≡ true) ⊎ (list_any (bytes_eq text) short_signs ≡ true) →
        begins_apart text ≡ true
    by (inl long) = shared begins_apart long_signs text refl long
    by (inr short) = shared begins_apart short_signs text refl short

pub sign_is_plain : (text : List ℕ) → is_sign text ≡ true → list_all is_plain text ≡ true
sign_is_plain text h = by (or_cases (list_any (bytes_eq text) long_signs) (list_any (bytes_eq text) short_signs) h)
  where
    by : (list_any (bytes_eq text) long_signs ≡ true) ⊎ (list_any (bytes_eq text) short_signs ≡ true) →
        list_all is_plain text ≡ true
    by (inl long) = shared (list_all is_plain) long_signs text refl long
    by (inr short) = shared (list_all is_plain) short_signs text refl short

not_true : (b : Bool) → not b ≡ true → b ≡ false
not_true true h = sym h
not_true false h = refl

pub sign_begins_with_no_letter : (b : ℕ) (bs : List ℕ) → is_sign (b ∷ bs) ≡ true → is_letter b ≡ false
unfolding begins_apart
sign_begins_with_no_letter b bs h = not_true (is_letter b)
    (and_first (not (is_letter b)) (not (is_digit b)) (sign_begins_apart (b ∷ bs) h))

pub sign_begins_with_no_digit : (b : ℕ) (bs : List ℕ) → is_sign (b ∷ bs) ≡ true → is_digit b ≡ false
unfolding begins_apart
sign_begins_with_no_digit b bs h = not_true (is_digit b)
    (and_second (not (is_letter b)) (not (is_digit b)) (sign_begins_apart (b ∷ bs) h))

-- a sign of one byte, and one of more
pub sign_of_one : (b : ℕ) → is_sign (b ∷ []) ≡ true → is_short_sign b ≡ true
sign_of_one b h = by (or_cases (list_any (bytes_eq (b ∷ [])) long_signs) (is_short_sign b) h)
  where
    by : (list_any (bytes_eq (b ∷ [])) long_signs ≡ true) ⊎ (is_short_sign b ≡ true) → is_short_sign b ≡ true
    by (inl long) = absurd (let two = long_length (b ∷ []) long in omega arith)
    by (inr short) = short

pub sign_of_more : (b c : ℕ) (bs : List ℕ) → is_sign (b ∷ c ∷ bs) ≡ true → (bs ≡ []) × (is_long_sign b c ≡ true)
sign_of_more b c bs h = by (or_cases (list_any (bytes_eq (b ∷ c ∷ bs)) long_signs)
    (list_any (bytes_eq (b ∷ c ∷ bs)) short_signs) h)
  where
    empty : (xs : List ℕ) → length (b ∷ c ∷ xs) ≡ 2 → xs ≡ []
    empty [] e = refl
    empty (x ∷ xs) e = absurd (omega arith)

    by : (list_any (bytes_eq (b ∷ c ∷ bs)) long_signs ≡ true) ⊎ (list_any (bytes_eq (b ∷ c ∷ bs)) short_signs ≡ true) →
        (bs ≡ []) × (is_long_sign b c ≡ true)
    by (inl long) =
        let none : bs ≡ [] = empty bs (long_length (b ∷ c ∷ bs) long) in
        (none, subst (λ xs. list_any (bytes_eq (b ∷ c ∷ xs)) long_signs ≡ true) none long)
    by (inr short) = absurd (let one = short_length (b ∷ c ∷ bs) short in omega arith)

pub long_is_sign : (b c : ℕ) → is_long_sign b c ≡ true → is_sign (b ∷ c ∷ []) ≡ true
long_is_sign b c h = or_left (is_long_sign b c) (list_any (bytes_eq (b ∷ c ∷ [])) short_signs) h

pub short_is_sign : (b : ℕ) → is_short_sign b ≡ true → is_sign (b ∷ []) ≡ true
short_is_sign b h = or_right (list_any (bytes_eq (b ∷ [])) long_signs) (is_short_sign b) h
