-- Elements with one text are one element.
use Rattle.std.proofs.Common.{◌≡◌, ◌<◌, ◌≤◌, ◌^◌, Bool, ℕ, suc, List, [], ◌∷◌, drop, Option, Some, None, ⊎_elim, sym, ap, ◌∙◌, refl, arith, subst}
use Rattle.std.specs.Prelude.{ℤ, pos, negsuc, codes, decimal, unsigned_abs}
use Rattle.std.specs.Fmt.{signed_decimal}
use Rattle.std.specs.Int.Signed.{mag}
use Rattle.std.specs.Str.Parse.{AllDigits}
use Rattle.std.proofs.lemmas.Str.Parse.{digit_from_value}
use Rattle.std.proofs.lemmas.Fmt.{signed_decimal_injective, decimal_is_IsNumeral}
use Rattle.trop_theory.specs.Semiring.{Semiring}
use Rattle.trop_theory.specs.Numbers.{Numbering, NumberLaws}
use Rattle.trop_spelling.specs.declared.ring_kind.RingKind.{RingKind}
use Rattle.trop_spelling.specs.declared.ring_kind.RingKind.TheVariants.{Max as MaxKind, Min as MinKind, Bool as BoolKind}
use Rattle.trop_spelling.specs.Spelling.{KindLaws, IsTruthOnly, element_text}
use Rattle.tplib_laws.proofs.Splitting.{AreFrom, same_first}

-- the number, if any, of an element of such a semiring, of a size that is printed whole
abbrev pub Fits : RingKind → Option ℤ → Type 0
Fits MaxKind None = Unit {0}
Fits MaxKind (Some n) = mag n < 2 ^ 63
Fits MinKind None = Unit {0}
Fits MinKind (Some n) = mag n < 2 ^ 63
Fits BoolKind None = Unit {0}
Fits BoolKind (Some n) = n ≡ pos 0

digits_from : (m : ℕ) (ds : List ℕ) → m ≤ 48 → AllDigits 10 ds → AreFrom m ds
digits_from m [] l d = tt
digits_from m (c ∷ ds) l d = (omega (arith, digit_from_value c d.0), digits_from m ds l d.1)

first_digit : (n c : ℕ) (ds : List ℕ) → n < 2 ^ 64 → decimal n ≡ c ∷ ds → c < 58
first_digit n c ds h e = omega (arith, digit_from_value c (subst (AllDigits 10) e (decimal_is_IsNumeral n h).0.1).0)

first_digit_from : (n c : ℕ) (ds : List ℕ) → n < 2 ^ 64 → decimal n ≡ c ∷ ds → 48 ≤ c
first_digit_from n c ds h e = omega (
  arith,
  digit_from_value c
      (subst (AllDigits 10) e (decimal_is_IsNumeral n h).0.1).0,
)

-- no number is printed as the zero of max, or of min
not_below : (n : ℤ) → mag n < 2 ^ 63 → signed_decimal n ≡ codes "-oo" → ⊥
not_below (pos n) h e = omega (arith, first_digit_from n 45 (111 ∷ 111 ∷ []) (omega arith) e)
not_below (negsuc n) h e = omega (arith, first_digit (suc n) 111 (111 ∷ []) (omega arith) (ap (drop 1) e))

not_above : (n : ℤ) → mag n < 2 ^ 63 → signed_decimal n ≡ codes "oo" → ⊥
not_above (pos n) h e = omega (arith, first_digit n 111 (111 ∷ []) (omega arith) e)
not_above (negsuc n) h e = let p = same_first 45 111 (decimal (suc n)) (111 ∷ []) e in absurd (omega (arith, p))

pub text_injective : (kind : RingKind) (o p : Option ℤ) → Fits kind o → Fits kind p →
    element_text kind o ≡ element_text kind p → o ≡ p
text_injective MaxKind None None h k e = refl
text_injective MaxKind None (Some n) h k e = absurd (not_below n k (sym e))
text_injective MaxKind (Some m) None h k e = absurd (not_below m h e)
text_injective MaxKind (Some m) (Some n) h k e = ap Some (signed_decimal_injective m n h k e)
text_injective MinKind None None h k e = refl
text_injective MinKind None (Some n) h k e = absurd (not_above n k (sym e))
text_injective MinKind (Some m) None h k e = absurd (not_above m h e)
text_injective MinKind (Some m) (Some n) h k e = ap Some (signed_decimal_injective m n h k e)
text_injective BoolKind None None h k e = refl
text_injective BoolKind None (Some n) h k e = absurd cc
text_injective BoolKind (Some m) None h k e = absurd cc
text_injective BoolKind (Some m) (Some n) h k e = ap Some (h ∙ sym k)

number_from : (n : ℤ) → mag n < 2 ^ 63 → AreFrom 45 (signed_decimal n)
number_from (pos n) h = digits_from 45 (decimal n) (omega arith) (decimal_is_IsNumeral n (omega arith)).0.1
number_from (negsuc n) h = (
  omega arith,
  digits_from 45 (decimal (suc n)) (omega arith)
      (decimal_is_IsNumeral (suc n) (omega arith)).0.1,
)

-- each byte of an element is at least that of `-`, so behind the comma
pub text_from : (kind : RingKind) (o : Option ℤ) → Fits kind o → AreFrom 45 (element_text kind o)
text_from MaxKind None h = (omega arith, (omega arith, (omega arith, tt)))
text_from MaxKind (Some n) h = number_from n h
text_from MinKind None h = (omega arith, (omega arith, tt))
text_from MinKind (Some n) h = number_from n h
text_from BoolKind None h = (omega arith, (omega arith, (omega arith, (omega arith, (omega arith, tt)))))
text_from BoolKind (Some n) h = (omega arith, (omega arith, (omega arith, (omega arith, tt))))

small_mag : (n : ℤ) → unsigned_abs n < 2 ^ 63 → mag n < 2 ^ 63
small_mag (pos n) h = omega arith
small_mag (negsuc n) h = omega arith

module _ {V : Type 0} {R : Semiring V} {N : Numbering V} (numbers : NumberLaws R N) where
  one_of_some : IsTruthOnly R N → (a : V) (n : ℤ) → N.to a ≡ Some n → a ≡ R.one
  one_of_some truths a n e = ⊎_elim (λ z. let p : None ≡ Some n = sym ((numbers.none a).1 z) ∙ e in absurd cc) (λ o. o)
      (truths.two a)

  pub fits : (kind : RingKind) (reversed : Bool) → KindLaws kind R N reversed → (a : V) (o : Option ℤ) →
      R.size a < 2 ^ 63 → N.to a ≡ o → Fits kind o
  fits MaxKind reversed known a None s e = tt
  fits MaxKind reversed known a (Some n) s e = small_mag n (omega (arith, known.0.size a n e))
  fits MinKind reversed known a None s e = tt
  fits MinKind reversed known a (Some n) s e = small_mag n (omega (arith, known.0.size a n e))
  fits BoolKind reversed known a None s e = tt
  fits BoolKind reversed known a (Some n) s e = let p : Some n ≡ Some (pos 0) =
      sym e ∙ ap N.to (one_of_some known a n e) ∙ known.number in cc

  -- elements with one number
  pub to_injective : (kind : RingKind) (reversed : Bool) → KindLaws kind R N reversed → (a b : V) (o : Option ℤ) →
      N.to a ≡ o → N.to b ≡ o → a ≡ b
  to_injective kind reversed known a b None p q = (numbers.none a).0 p ∙ sym ((numbers.none b).0 q)
  to_injective MaxKind reversed known a b (Some n) p q = sym (known.0.of-to a n p) ∙ known.0.of-to b n q
  to_injective MinKind reversed known a b (Some n) p q = sym (known.0.of-to a n p) ∙ known.0.of-to b n q
  to_injective BoolKind reversed known a b (Some n) p q = one_of_some known a n p ∙ sym (one_of_some known b n q)

  pub element_injective : (kind : RingKind) (reversed : Bool) → KindLaws kind R N reversed → (a b : V) →
      R.size a < 2 ^ 63 → R.size b < 2 ^ 63 → element_text kind (N.to a) ≡ element_text kind (N.to b) → a ≡ b
  element_injective kind reversed known a b s t e =
      to_injective kind reversed known a b (N.to a) refl
      (sym (text_injective kind (N.to a) (N.to b) (fits kind reversed known a (N.to a) s refl)
      (fits kind reversed known b (N.to b) t refl) e))

  pub element_from : (kind : RingKind) (reversed : Bool) → KindLaws kind R N reversed → (a : V) → R.size a < 2 ^ 63 →
      AreFrom 45 (element_text kind (N.to a))
  element_from kind reversed known a s = text_from kind (N.to a) (fits kind reversed known a (N.to a) s refl)
