-- Numbers grow with their digits.
use Rattle.std.proofs.Common.{◌≡◌, ◌≤◌, ◌<◌, ◌+◌, ◌-◌, ◌*◌, ℕ, zero, suc, List, [], ◌∷◌, length, take, get_or, refl, ap, sym, ◌∙◌, arith, add-one}
use Rattle.std.proofs.lemmas.Bool.Decides.{nat_tests}
use Rattle.std.specs.Char.{digit_value}
use Rattle.std.specs.Str.Parse.{AllDigits, digits_value, digits_value_after}
use Rattle.trop_text.specs.Digits.{number_after, number_of}

number_after-le : (ds : List ℕ) (n : ℕ) → n ≤ number_after n ds
number_after-le [] n = omega arith
number_after-le (d ∷ ds) n = let more = number_after-le ds (n * 10 + (d - 48)) in omega arith

number_after-more : (ds : List ℕ) (n i : ℕ) → i < length ds →
    number_after n (take (suc i) ds) ≡ number_after n (take i ds) * 10 + (get_or ds i 0 - 48)
number_after-more [] n i h = absurd (omega arith)
number_after-more (d ∷ ds) n zero h = refl
number_after-more (d ∷ ds) n (suc i) h = number_after-more ds (n * 10 + (d - 48)) i (omega arith)

number_after-take : (ds : List ℕ) (n i : ℕ) → number_after n (take i ds) ≤ number_after n ds
number_after-take ds n zero = number_after-le ds n
number_after-take [] n (suc i) = omega arith
number_after-take (d ∷ ds) n (suc i) = number_after-take ds (n * 10 + (d - 48)) i

pub number_of-more : (ds : List ℕ) (i : ℕ) → i < length ds →
    number_of (take (i + 1) ds) ≡ number_of (take i ds) * 10 + (get_or ds i 0 - 48)
number_of-more ds i h = rw add-one (number_after-more ds 0 i h)

pub number_of-take : (ds : List ℕ) (i : ℕ) → number_of (take i ds) ≤ number_of ds
number_of-take ds i = number_after-take ds 0 i

small_digit : (d : ℕ) → digit_value d < 10 → digit_value d ≡ d - 48
small_digit d h = grind (arith, nat_tests)

number_after-decimal : (ds : List ℕ) (n : ℕ) → AllDigits 10 ds → number_after n ds ≡ digits_value_after 10 n ds
number_after-decimal [] n h = refl
number_after-decimal (d ∷ ds) n h =
    number_after-decimal ds (n * 10 + (d - 48)) h.1 ∙ ap (λ k. digits_value_after 10 (n * 10 + k) ds)
    (sym (small_digit d h.0))

-- it is the number that the library has for decimal digits
pub number_of-decimal : (ds : List ℕ) → AllDigits 10 ds → number_of ds ≡ digits_value 10 ds
number_of-decimal ds h = number_after-decimal ds 0 h
