-- The value of a number token that passes is at most the bound.
use Rattle.std.proofs.Common.{◌≡◌, ◌≤◌, ◌<◌, ◌⊎◌, inl, inr, ℕ, Bool, true, false, Result, Ok, Err, refl, sym, subst, ◌∙◌}
use Rattle.std.specs.Prelude.{nat_le, if◌then◌else◌}
use Rattle.std.proofs.lemmas.Bool.Decides.{leb_tells}
use Rattle.trop_text.specs.Digits.{number_of}
use Rattle.trop_text.specs.Pieces.{Piece}
use Rattle.trop_text.specs.declared.fault.FaultKind.{FaultKind}
use Rattle.trop_text.specs.declared.fault.FaultKind.TheVariants.{Syntax, NumberRange}
use Rattle.trop_reading.specs.Words.{text_of, is_digits, number, passed}

number_below : (digits inside : Bool) (value bound n : ℕ) → ((inside ≡ true) → value ≤ bound) →
    (let r : Result ℕ FaultKind = if digits then (if inside then Ok value else Err NumberRange) else Err Syntax in r) ≡
    Ok n → n ≤ bound
number_below true true value bound n below e = let same : value ≡ n = cc in subst (λ v. v ≤ bound) same (below refl)
number_below true false value bound n below e = cc
number_below false inside value bound n below e = cc

le_of_test : (a b : ℕ) → ((nat_le a b ≡ true) × (a ≤ b)) ⊎ ((nat_le a b ≡ false) × (b < a)) → nat_le a b ≡ true → a ≤ b
le_of_test a b (inl h) e = h.1
le_of_test a b (inr h) e = absurd (false_true (sym h.0 ∙ e))
  where
    false_true : false ≡ true → ⊥
    false_true e = cc

pub number_bound : (bound n : ℕ) (p : Piece) → number bound p ≡ Ok n → n ≤ bound
unfolding number
number_bound bound n p e = number_below (is_digits p) (nat_le (number_of (text_of p)) bound)
    (number_of (text_of p)) bound n (le_of_test (number_of (text_of p)) bound (leb_tells (number_of (text_of p)) bound))
    e

-- what a judge let pass stands for a number that it let pass
pub passed_number : {B : Type 0} (f : ℕ → B) (bound : ℕ) (p : Piece) (r : Result ℕ FaultKind) (y : B) →
    ((n : ℕ) → r ≡ Ok n → n ≤ bound) → passed f r ≡ Ok y → (n : ℕ) × (n ≤ bound) × (f n ≡ y)
passed_number f bound p (Ok n) y below e = let same : f n ≡ y = cc in (n, below n refl, same)
passed_number f bound p (Err what) y below e = cc
