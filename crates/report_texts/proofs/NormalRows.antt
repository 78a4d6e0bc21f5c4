-- A vector in normal form is its own normal form, and what a row becomes is in normal form.
-- Index: inverse_one, scaled_one, leading_normal, normalised_normal, finite_normal, normalised_is.
use Rattle.std.proofs.Common.{◌≡◌, ◌≢◌, ◌<◌, ◌||◌, ℕ, zero, suc, Bool, true, false, cond, List, [], ◌∷◌, length, Option, Some, None, refl, sym, ap, subst, ◌∙◌, arith}
use Rattle.std.specs.Prelude.{is_some}
use Rattle.std.proofs.lemmas.Bool.{or_left, or_right}
use Rattle.std.proofs.lemmas.List.{length-map}
use Rattle.trop_theory.specs.Semiring.{Semiring, SemiringLaws}
use Rattle.trop_theory.specs.Numbers.{Numbering, NumberLaws}
use Rattle.trop_theory.specs.Vectors.{entry, scaled}
use Rattle.trop_theory.specs.Normal.{IsNormal, Normalises}
use Rattle.report_texts.specs.Lines.{has_finite}
use Rattle.report_texts.specs.LineTexts.{leading, divided, normalised}

module _ {V : Type 0} (R : Semiring V) (N : Numbering V) (laws : SemiringLaws R) (numbers_are : NumberLaws R N) where
  inverse_one : R.inverse R.one ≡ R.one
  inverse_one = sym (laws.one_neutral (R.inverse R.one)) ∙ laws.invertible R.one laws.one_finite

  scaled_one : (x : List V) → scaled R R.one x ≡ x
  scaled_one [] = refl
  scaled_one (a ∷ x) = λ i. laws.one_neutral a i ∷ scaled_one x i

  some_finite : (a : V) → a ≢ R.zero → is_some (N.to a) ≡ true
  some_finite a h = at (N.to a) refl
    where
      at : (o : Option _) → N.to a ≡ o → is_some o ≡ true
      at (Some n) e = refl
      at None e = absurd (h ((numbers_are.none a).0 e))

  zero_none : is_some (N.to R.zero) ≡ false
  zero_none = ap is_some ((numbers_are.none R.zero).1 refl)

  leading_at : (x : List V) (f : ℕ) → f < length x → entry R x f ≡ R.one →
      ((i : ℕ) → i < f → entry R x i ≡ R.zero) → leading N x ≡ Some R.one
  leading_at [] f h one before = absurd (omega (arith, h))
  leading_at (a ∷ x) zero h one before =
      let e : a ≡ R.one = one in
      let k = some_finite a (λ z. laws.one_finite (sym e ∙ z)) in
      ap (λ b. cond b (Some a) (leading N x)) k ∙ ap Some e
  leading_at (a ∷ x) (suc f) h one before =
      let e : a ≡ R.zero = before 0 (omega arith) in
      let k : is_some (N.to a) ≡ false = ap (λ z. is_some (N.to z)) e ∙ zero_none in
      ap (λ b. cond b (Some a) (leading N x)) k
      ∙ leading_at x f (omega (arith, h)) one (λ i lt. before (suc i) (omega (arith, lt)))

  pub leading_normal : (x : List V) → IsNormal R x → leading N x ≡ Some R.one
  leading_normal x h = leading_at x h.first h.within h.is_one h.before

  -- a vector in normal form stays
  pub normalised_normal : (x : List V) → IsNormal R x → normalised R N x ≡ x
  normalised_normal x h = ap (λ o. divided R o x) (leading_normal x h) ∙ ap (λ c. scaled R c x) inverse_one
      ∙ scaled_one x

  pub finite_led : (x : List V) (c : V) → leading N x ≡ Some c → has_finite N x ≡ true
  finite_led [] c e = absurd cc
  finite_led (a ∷ x) c e = at (λ q. finite_led x c q) (is_some (N.to a)) refl
    where
      at : (leading N x ≡ Some c → has_finite N x ≡ true) → (b : Bool) → is_some (N.to a) ≡ b →
          has_finite N (a ∷ x) ≡ true
      at more true k = or_left (is_some (N.to a)) (has_finite N x) k
      at more false k = or_right (is_some (N.to a)) (has_finite N x)
          (more (sym (ap (λ b. cond b (Some a) (leading N x)) k) ∙ e))

  pub finite_normal : (x : List V) → IsNormal R x → has_finite N x ≡ true
  finite_normal x h = finite_led x R.one (leading_normal x h)

  -- ---- what a row becomes

  -- where the first finite entry stands
  pub record IsLed (x : List V) (c : V) : Type 0 where
    pub place : ℕ
    pub within : place < length x
    pub is : entry R x place ≡ c
    pub finite : c ≢ R.zero
    pub before : (i : ℕ) → i < place → entry R x i ≡ R.zero

  finite_is : (a : V) → is_some (N.to a) ≡ true → a ≢ R.zero
  finite_is a e z = let k = sym e ∙ ap (λ y. is_some (N.to y)) z ∙ zero_none in cc

  none_is : (a : V) → is_some (N.to a) ≡ false → a ≡ R.zero
  none_is a e = at (N.to a) refl e
    where
      at : (o : Option _) → N.to a ≡ o → is_some o ≡ false → a ≡ R.zero
      at None k q = (numbers_are.none a).0 k
      at (Some n) k q = absurd cc

  -- one entry more in front, which is the zero
  behind_zero : (a : V) (x : List V) (c : V) → a ≡ R.zero → IsLed x c → IsLed (a ∷ x) c
  behind_zero a x c z h =
      let w = h.within in
      record { place = suc h.place; within = omega (arith, w); is = h.is; finite = h.finite; before = first }
    where
      first : (i : ℕ) → i < suc h.place → entry R (a ∷ x) i ≡ R.zero
      first zero lt = z
      first (suc i) lt = h.before i (omega (arith, lt))

  pub led_at : (x : List V) (c : V) → leading N x ≡ Some c → IsLed x c
  led_at [] c e = absurd cc
  led_at (a ∷ x) c e = at (λ q. led_at x c q) (is_some (N.to a)) refl e
    where
      at : (leading N x ≡ Some c → IsLed x c) → (b : Bool) → is_some (N.to a) ≡ b →
          cond b (Some a) (leading N x) ≡ Some c → IsLed (a ∷ x) c
      at more true k q =
          let same : a ≡ c = cc in
          record {
            place = 0;
            within = omega arith;
            is = same;
            finite = λ z. finite_is a k (same ∙ z);
            before = λ i lt. absurd (omega (arith, lt));
          }
      at more false k q = behind_zero a x c (none_is a k) (more q)

  scaled_entry : (c : V) (x : List V) (i : ℕ) → R.times c R.zero ≡ R.zero → entry R (scaled R c x) i ≡
      R.times c (entry R x i)
  scaled_entry c [] i z = sym z
  scaled_entry c (a ∷ x) zero z = refl
  scaled_entry c (a ∷ x) (suc i) z = scaled_entry c x i z

  zero_times : (c : V) → R.times c R.zero ≡ R.zero
  zero_times c = laws.times_comm c R.zero ∙ laws.zero_absorbs c

  inverse_finite : (c : V) → c ≢ R.zero → R.inverse c ≢ R.zero
  inverse_finite c h e = laws.one_finite (sym (laws.invertible c h) ∙ ap (R.times c) e ∙ zero_times c)

  divided_is : (x : List V) (c : V) → IsLed x c → Normalises R x (scaled R (R.inverse c) x)
  divided_is x c h =
      let i = R.inverse c in
      let w = h.within in
      let len = length-map x (R.times i) in
      record {
        factor = i;
        finite = inverse_finite c h.finite;
        multiple = refl;
        normal = record {
          first = h.place;
          within = omega (arith, w, len);
          is_one = scaled_entry i x h.place (zero_times i) ∙ ap (R.times i) h.is ∙ laws.times_comm i c
              ∙ laws.invertible c h.finite;
          before = λ j lt. scaled_entry i x j (zero_times i) ∙ ap (R.times i) (h.before j lt) ∙ zero_times i;
        };
      }

  pub led_finite : (x : List V) → has_finite N x ≡ true → (c : V) × (leading N x ≡ Some c)
  led_finite [] e = absurd cc
  led_finite (a ∷ x) e = at (λ q. led_finite x q) (is_some (N.to a)) refl e
    where
      at : (has_finite N x ≡ true → (c : V) × (leading N x ≡ Some c)) → (b : Bool) → is_some (N.to a) ≡ b →
          (b || has_finite N x) ≡ true → (c : V) × (cond (is_some (N.to a)) (Some a) (leading N x) ≡ Some c)
      at more true k q = (a, ap (λ b. cond b (Some a) (leading N x)) k)
      at more false k q = let h = more q in (h.0, ap (λ b. cond b (Some a) (leading N x)) k ∙ h.1)

  -- a row with a finite entry becomes its multiple in normal form
  pub normalised_is : (x : List V) → has_finite N x ≡ true → Normalises R x (normalised R N x)
  normalised_is x e =
      let h = led_finite x e in
      subst (λ o. Normalises R x (divided R o x)) (sym h.1) (divided_is x h.0 (led_at x h.0 h.1))
