-- Words of elements of the max-plus semiring, and one lane of a vector of them.
use Rattle.std.proofs.Common.{◌≡◌, ◌≢◌, ◌≤◌, ◌+◌, ◌%◌, ◌^◌, ◌-◌, ◌⊎◌, inl, inr, ℕ, Bool, true, false, not, cond, ◌&&◌, eqb, Some, None, sym, ap, ◌∙◌, ap₂, refl, arith, w64}
use Rattle.std.specs.Prelude.{ℤ, ◌+ℤ◌, nat_abs, int_lt, bit_and, FitsSigned}
use Rattle.std.specs.Ordering.{int_eq}
use Rattle.std.proofs.lemmas.Bool.Decides.{Decides-int_eq}
use Rattle.std.proofs.lemmas.Int.{ints, to_z-of_z, wrapping_add_is, int_wrap_fits}
use Rattle.std.specs.Simd.Lanes.{top}
use mir.Val.{to_z, of_z}
use Rattle.trop_theory.specs.Sizes.{most_element}
use Rattle.trop_theory.specs.MaxPlus.{max_plus, sum_of, magnitude}
use Rattle.trop_theory.proofs.MaxPlusLaws.{max_laws}
use Rattle.trop_theory.proofs.Order.{plus_zero, times_zero}
use Rattle.trop_scalar.specs.Words.{least, word_value}

-- a comparison of lanes
abbrev pub mask : Bool → ℕ
mask t = cond t (2 ^ 64 - 1) 0

-- what one lane becomes, as bits: the sum of x and y where neither is the least and it is above b, else b
abbrev pub lane : ℕ → ℕ → ℕ → ℕ
lane b x y =
    let s = (x + y) % 2 ^ 64 in
    cond (top 63
    (bit_and (bit_and (mask (not (eqb x (2 ^ 63)))) (mask (not (eqb y (2 ^ 63)))))
    (mask (int_lt (to_z w64 b) (to_z w64 s))))) s b

taken : (p q r : Bool) → top 63 (bit_and (bit_and (mask p) (mask q)) (mask r)) ≡ (p && q && r)
taken true true true = refl
taken true true false = refl
taken true false true = refl
taken true false false = refl
taken false true true = refl
taken false true false = refl
taken false false true = refl
taken false false false = refl

-- a word is the least, or stands for itself
word_cases : (z : ℤ) → (z ≡ least) ⊎ ((int_eq z least ≡ false) × (word_value z ≡ Some z))
word_cases z = decided (int_eq z least) refl
  where
    decided : (t : Bool) → int_eq z least ≡ t → (z ≡ least) ⊎ ((int_eq z least ≡ false) × (word_value z ≡ Some z))
    decided true e = inl ((Decides-int_eq z least).0 e)
    decided false e = inr (e, ap (λ b. cond b None (Some z)) e)

-- a word of an element that is held
pub fits_word : (z : ℤ) → magnitude (word_value z) ≤ most_element → FitsSigned w64 z
fits_word z h = grind (arith, ints)

-- the bits of a word that is not the least
not_least_bits : (z : ℤ) → FitsSigned w64 z → int_eq z least ≡ false → eqb (of_z w64 z) (2 ^ 63) ≡ false
not_least_bits z f e = grind (arith, ints)

exact_sum : (x y : ℤ) → nat_abs x + nat_abs y ≤ most_element → to_z w64 ((of_z w64 x + of_z w64 y) % 2 ^ 64) ≡ x +ℤ y
exact_sum x y h = wrapping_add_is w64 x y (grind (arith, ints)) (grind (arith, ints))
    ∙ int_wrap_fits w64 (x +ℤ y) (grind (arith, ints))

-- a word that stands for a number
finite : (z : ℤ) → magnitude (Some z) ≤ most_element → int_eq z least ≡ false
finite z h = grind (arith, ints)

value_finite : (z : ℤ) → magnitude (Some z) ≤ most_element → word_value z ≡ Some z
value_finite z h = ap (λ b. cond b None (Some z)) (finite z h)

-- a lane whose first factor, or whose second, is the zero
left_least : (b y : ℕ) → lane b (2 ^ 63) y ≡ b
left_least b y =
    let s = (2 ^ 63 + y) % 2 ^ 64 in
    ap (λ t. cond t s b) (taken false (not (eqb y (2 ^ 63))) (int_lt (to_z w64 b) (to_z w64 s)))

and_false : (p : Bool) → (p && false) ≡ false
and_false true = refl
and_false false = refl

right_least : (b x : ℕ) → lane b x (2 ^ 63) ≡ b
right_least b x =
    let s = (x + 2 ^ 63) % 2 ^ 64 in
    ap (λ t. cond t s b) (taken (not (eqb x (2 ^ 63))) false (int_lt (to_z w64 b) (to_z w64 s))
    ∙ ap (λ t. t && int_lt (to_z w64 b) (to_z w64 s)) (and_false (not (eqb x (2 ^ 63)))))

both_finite : (b x y : ℕ) → eqb x (2 ^ 63) ≡ false → eqb y (2 ^ 63) ≡ false →
    let s = (x + y) % 2 ^ 64 in lane b x y ≡ cond (int_lt (to_z w64 b) (to_z w64 s)) s b
both_finite b x y p q =
    let s = (x + y) % 2 ^ 64 in
    ap (λ t. cond t s b) (taken (not (eqb x (2 ^ 63))) (not (eqb y (2 ^ 63))) (int_lt (to_z w64 b) (to_z w64 s))
    ∙ ap (λ t. (not t && not (eqb y (2 ^ 63))) && int_lt (to_z w64 b) (to_z w64 s)) p
    ∙ ap (λ t. not t && int_lt (to_z w64 b) (to_z w64 s)) q)

-- the greater of a word and a number, as words
raised_word : (b s : ℤ) → magnitude (word_value b) ≤ most_element → magnitude (Some s) ≤ most_element →
    word_value (cond (int_lt b s) s b) ≡ max_plus (word_value b) (Some s)
raised_word b s h k = decided (word_cases b) (int_lt b s) refl
  where
    decided : (b ≡ least) ⊎ ((int_eq b least ≡ false) × (word_value b ≡ Some b)) → (t : Bool) → int_lt b s ≡ t →
        word_value (cond (int_lt b s) s b) ≡ max_plus (word_value b) (Some s)
    decided (inl e) true p =
        ap (λ t. word_value (cond t s b)) p ∙ value_finite s k ∙ ap (λ z. max_plus (word_value z) (Some s)) (sym e)
    decided (inl e) false p = absurd (low (ap (λ z. int_lt z s) (sym e) ∙ p))
      where
        low : int_lt least s ≡ false → ⊥
        low q = grind (arith, ints)
    decided (inr f) true p =
        ap (λ t. word_value (cond t s b)) p ∙ value_finite s k ∙ ap (λ t. Some (cond t s b)) (sym p)
        ∙ ap (λ v. max_plus v (Some s)) (sym f.1)
    decided (inr f) false p =
        ap (λ t. word_value (cond t s b)) p ∙ f.1 ∙ ap (λ t. Some (cond t s b)) (sym p)
        ∙ ap (λ v. max_plus v (Some s)) (sym f.1)

-- the greater of two words
pub greater_word : (a b : ℤ) → magnitude (word_value a) ≤ most_element → magnitude (word_value b) ≤ most_element →
    word_value (cond (int_lt a b) b a) ≡ max_plus (word_value a) (word_value b)
greater_word a b h k = by_case (word_cases b)
  where
    low : FitsSigned w64 a → int_lt a least ≡ false
    low f = grind (arith, ints)

    by_case : (b ≡ least) ⊎ ((int_eq b least ≡ false) × (word_value b ≡ Some b)) →
        word_value (cond (int_lt a b) b a) ≡ max_plus (word_value a) (word_value b)
    by_case (inl e) =
        ap (λ t. word_value (cond t b a)) (ap (int_lt a) e ∙ low (fits_word a h))
        ∙ sym (plus_zero max_laws (word_value a)) ∙ ap (λ z. max_plus (word_value a) (word_value z)) (sym e)
    by_case (inr f) =
        raised_word a b h (omega (arith, ap magnitude f.1, k)) ∙ ap (max_plus (word_value a)) (sym f.1)

-- one lane: the sum of b and the product of x and y
pub lane_value : (b x y : ℤ) → magnitude (word_value b) ≤ most_element →
    magnitude (word_value x) + magnitude (word_value y) ≤ most_element →
    word_value (to_z w64 (lane (of_z w64 b) (of_z w64 x) (of_z w64 y))) ≡
    max_plus (word_value b) (sum_of (word_value x) (word_value y))
lane_value b x y h k = by_cases (word_cases x) (word_cases y)
  where
    fb : FitsSigned w64 b
    fb = fits_word b h

    stays : to_z w64 (lane (of_z w64 b) (of_z w64 x) (of_z w64 y)) ≡ to_z w64 (of_z w64 b) →
        sum_of (word_value x) (word_value y) ≡ None →
        word_value (to_z w64 (lane (of_z w64 b) (of_z w64 x) (of_z w64 y))) ≡
        max_plus (word_value b) (sum_of (word_value x) (word_value y))
    stays p q = ap word_value (p ∙ to_z-of_z w64 b fb) ∙ sym (plus_zero max_laws (word_value b))
        ∙ ap (max_plus (word_value b)) (sym q)

    by_cases : (x ≡ least) ⊎ ((int_eq x least ≡ false) × (word_value x ≡ Some x)) →
        (y ≡ least) ⊎ ((int_eq y least ≡ false) × (word_value y ≡ Some y)) →
        word_value (to_z w64 (lane (of_z w64 b) (of_z w64 x) (of_z w64 y))) ≡
        max_plus (word_value b) (sum_of (word_value x) (word_value y))
    by_cases (inl e) d =
        stays (ap (λ z. to_z w64 (lane (of_z w64 b) (of_z w64 z) (of_z w64 y))) e
        ∙ ap (to_z w64) (left_least (of_z w64 b) (of_z w64 y)))
        (ap (λ z. sum_of (word_value z) (word_value y)) e)
    by_cases (inr d) (inl e) =
        stays (ap (λ z. to_z w64 (lane (of_z w64 b) (of_z w64 x) (of_z w64 z))) e
        ∙ ap (to_z w64) (right_least (of_z w64 b) (of_z w64 x)))
        (ap (λ z. sum_of (word_value x) (word_value z)) e ∙ times_zero max_laws (word_value x))
    by_cases (inr d) (inr e) =
        let sizes : nat_abs x + nat_abs y ≤ most_element = omega (arith, ap magnitude d.1, ap magnitude e.1) in
        let fx = fits_word x (omega arith) in
        let fy = fits_word y (omega arith) in
        let s = (of_z w64 x + of_z w64 y) % 2 ^ 64 in
        let exact = exact_sum x y sizes in
        let back = to_z-of_z w64 b fb in
        ap (λ n. word_value (to_z w64 n))
        (both_finite (of_z w64 b) (of_z w64 x) (of_z w64 y) (not_least_bits x fx d.0) (not_least_bits y fy e.0))
        ∙ ap word_value (spread (int_lt (to_z w64 (of_z w64 b)) (to_z w64 s)) s (of_z w64 b))
        ∙ ap₂ (λ p q. word_value (cond (int_lt p q) q p)) back exact
        ∙ raised_word b (x +ℤ y) h (grind (arith, ints))
        ∙ ap₂ (λ p q. max_plus (word_value b) (sum_of p q)) (sym d.1) (sym e.1)
      where
        spread : (t : Bool) (m n : ℕ) → to_z w64 (cond t m n) ≡ cond t (to_z w64 m) (to_z w64 n)
        spread true m n = refl
        spread false m n = refl

-- the product of two words that are not the least
pub product_word : (x y : ℤ) → FitsSigned w64 x → FitsSigned w64 y → of_z w64 x ≢ 2 ^ 63 → of_z w64 y ≢ 2 ^ 63 →
    magnitude (word_value x) + magnitude (word_value y) ≤ most_element →
    word_value (to_z w64 (of_z w64 (to_z w64 (of_z w64 x) +ℤ to_z w64 (of_z w64 y)))) ≡
    sum_of (word_value x) (word_value y)
product_word x y f g p q h = by_cases (word_cases x) (word_cases y)
  where
    by_cases : (x ≡ least) ⊎ ((int_eq x least ≡ false) × (word_value x ≡ Some x)) →
        (y ≡ least) ⊎ ((int_eq y least ≡ false) × (word_value y ≡ Some y)) →
        word_value (to_z w64 (of_z w64 (to_z w64 (of_z w64 x) +ℤ to_z w64 (of_z w64 y)))) ≡
        sum_of (word_value x) (word_value y)
    by_cases (inl e) d = absurd (p (ap (of_z w64) e))
    by_cases (inr d) (inl e) = absurd (q (ap (of_z w64) e))
    by_cases (inr d) (inr e) =
        let sizes : nat_abs x + nat_abs y ≤ most_element = omega (arith, ap magnitude d.1, ap magnitude e.1) in
        let small : magnitude (Some (x +ℤ y)) ≤ most_element = grind (arith, ints) in
        let fits : FitsSigned w64 (x +ℤ y) = grind (arith, ints) in
        ap₂ (λ a b. word_value (to_z w64 (of_z w64 (a +ℤ b)))) (to_z-of_z w64 x f) (to_z-of_z w64 y g)
        ∙ ap word_value (to_z-of_z w64 (x +ℤ y) fits)
        ∙ value_finite (x +ℤ y) small
        ∙ ap₂ sum_of (sym d.1) (sym e.1)
