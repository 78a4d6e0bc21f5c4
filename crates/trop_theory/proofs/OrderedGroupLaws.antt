-- A totally ordered commutative group with an element below all others keeps the laws of a semiring.
-- Index: bottom_laws, reversed_laws.
use Rattle.std.proofs.Common.{◌≡◌, ◌≢◌, ◌⊎◌, ◌≤◌, ◌+◌, max, Bool, true, false, cond, Option, Some, None, inl, inr, ⊎_elim, sym, ap, ◌∙◌, refl, subst, arith, true≢false}
use Rattle.trop_theory.specs.Semiring.{SemiringLaws, Le}
use Rattle.trop_theory.specs.OrderedGroups.{OrderedGroup, OrderedGroupLaws, greater_of, plus_of, times_of, inverse_of, size_of, with_bottom, reversed}

either : (t : Bool) → (t ≡ true) ⊎ (t ≡ false)
either true = inl refl
either false = inr refl

module _ {G : Type 0} (A : OrderedGroup G) (laws : OrderedGroupLaws A) where
  -- ---- the greater of two

  second : (a b : G) → A.less a b ≡ true → greater_of A a b ≡ b
  second a b e = ap (λ t. cond t b a) e

  first : (a b : G) → A.less a b ≡ false → greater_of A a b ≡ a
  first a b e = ap (λ t. cond t b a) e

  less_itself : (a : G) → A.less a a ≡ true → ⊥
  less_itself a p = true≢false (sym p ∙ laws.less_apart a a p)

  not_less_trans : (a b c : G) → A.less a b ≡ false → A.less b c ≡ false → A.less a c ≡ false
  not_less_trans a b c p q = ⊎_elim
      (λ r. absurd (⊎_elim
      (λ s. true≢false (sym (laws.less_trans b a c s r) ∙ q))
      (λ s. true≢false (sym r ∙ ap (λ z. A.less z c) (laws.less_total a b p s) ∙ q))
      (either (A.less b a))))
      (λ r. r)
      (either (A.less a c))

  greater_comm : (a b : G) → greater_of A a b ≡ greater_of A b a
  greater_comm a b = ⊎_elim
      (λ p. second a b p ∙ sym (first b a (laws.less_apart a b p)))
      (λ p. ⊎_elim
      (λ q. first a b p ∙ sym (second b a q))
      (λ q. first a b p ∙ laws.less_total a b p q ∙ sym (first b a q))
      (either (A.less b a)))
      (either (A.less a b))

  greater_selective : (a b : G) → (greater_of A a b ≡ a) ⊎ (greater_of A a b ≡ b)
  greater_selective a b = ⊎_elim (λ p. inr (second a b p)) (λ p. inl (first a b p)) (either (A.less a b))

  greater_assoc : (a b c : G) → greater_of A (greater_of A a b) c ≡ greater_of A a (greater_of A b c)
  greater_assoc a b c = ⊎_elim
      (λ p. ⊎_elim
      (λ q. ap (λ z. greater_of A z c) (second a b p) ∙ second b c q
      ∙ sym (ap (greater_of A a) (second b c q) ∙ second a c (laws.less_trans a b c p q)))
      (λ q. ap (λ z. greater_of A z c) (second a b p) ∙ first b c q
      ∙ sym (ap (greater_of A a) (first b c q) ∙ second a b p))
      (either (A.less b c)))
      (λ p. ⊎_elim
      (λ q. ap (λ z. greater_of A z c) (first a b p) ∙ ap (greater_of A a) (sym (second b c q)))
      (λ q. ap (λ z. greater_of A z c) (first a b p) ∙ first a c (not_less_trans a b c p q)
      ∙ sym (ap (greater_of A a) (first b c q) ∙ first a b p))
      (either (A.less b c)))
      (either (A.less a b))

  sum-greater : (a b c : G) → A.sum a (greater_of A b c) ≡ greater_of A (A.sum a b) (A.sum a c)
  sum-greater a b c = ⊎_elim
      (λ p. ap (A.sum a) (second b c p) ∙ sym (second (A.sum a b) (A.sum a c) (laws.less-sum a b c ∙ p)))
      (λ p. ap (A.sum a) (first b c p) ∙ sym (first (A.sum a b) (A.sum a c) (laws.less-sum a b c ∙ p)))
      (either (A.less b c))

  -- nothing lies between an element and the next one below it
  greater-next : (a b : G) → greater_of A a b ≡ b → a ≢ b → greater_of A a (A.sum A.step b) ≡ A.sum A.step b
  greater-next a b h d =
      let below : A.less a b ≡ true =
      ⊎_elim (λ p. p) (λ p. absurd (d (sym (first a b p) ∙ h))) (either (A.less a b)) in
      ⊎_elim
      (λ q. second a (A.sum A.step b) q)
      (λ q. first a (A.sum A.step b) q ∙ laws.less_total a (A.sum A.step b) q (laws.step_next a b below))
      (either (A.less a (A.sum A.step b)))

  size_greater : (a b : G) → A.size (greater_of A a b) ≤ max (A.size a) (A.size b)
  size_greater a b = ⊎_elim
      (λ e. subst (λ z. A.size z ≤ max (A.size a) (A.size b)) (sym e) (omega arith))
      (λ e. subst (λ z. A.size z ≤ max (A.size a) (A.size b)) (sym e) (omega arith))
      (greater_selective a b)

  same_or_not : (a b : G) → (a ≡ b) ⊎ (a ≢ b)
  same_or_not a b = ⊎_elim
      (λ p. inr (λ e. less_itself b (ap (λ z. A.less z b) (sym e) ∙ p)))
      (λ p. ⊎_elim
      (λ q. inr (λ e. less_itself a (ap (λ z. A.less z a) e ∙ q)))
      (λ q. inl (laws.less_total a b p q))
      (either (A.less b a)))
      (either (A.less a b))

  -- ---- with an element below all others

  plus_assoc : (a b c : Option G) → plus_of A (plus_of A a b) c ≡ plus_of A a (plus_of A b c)
  plus_assoc None b c = refl
  plus_assoc (Some a) None c = refl
  plus_assoc (Some a) (Some b) None = refl
  plus_assoc (Some a) (Some b) (Some c) = ap Some (greater_assoc a b c)

  plus_comm : (a b : Option G) → plus_of A a b ≡ plus_of A b a
  plus_comm None None = refl
  plus_comm None (Some b) = refl
  plus_comm (Some a) None = refl
  plus_comm (Some a) (Some b) = ap Some (greater_comm a b)

  selective : (a b : Option G) → (plus_of A a b ≡ a) ⊎ (plus_of A a b ≡ b)
  selective None b = inr refl
  selective (Some a) None = inl refl
  selective (Some a) (Some b) = ⊎_elim (λ e. inl (ap Some e)) (λ e. inr (ap Some e)) (greater_selective a b)

  times_assoc : (a b c : Option G) → times_of A (times_of A a b) c ≡ times_of A a (times_of A b c)
  times_assoc None b c = refl
  times_assoc (Some a) None c = refl
  times_assoc (Some a) (Some b) None = refl
  times_assoc (Some a) (Some b) (Some c) = ap Some (laws.sum_assoc a b c)

  times_comm : (a b : Option G) → times_of A a b ≡ times_of A b a
  times_comm None None = refl
  times_comm None (Some b) = refl
  times_comm (Some a) None = refl
  times_comm (Some a) (Some b) = ap Some (laws.sum_comm a b)

  distributes : (a b c : Option G) → times_of A a (plus_of A b c) ≡ plus_of A (times_of A a b) (times_of A a c)
  distributes None b c = refl
  distributes (Some a) None c = refl
  distributes (Some a) (Some b) None = refl
  distributes (Some a) (Some b) (Some c) = ap Some (sum-greater a b c)

  one_neutral : (a : Option G) → times_of A (Some A.neutral) a ≡ a
  one_neutral None = refl
  one_neutral (Some a) = ap Some (laws.sum_neutral a)

  invertible : (a : Option G) → a ≢ None → times_of A a (inverse_of A a) ≡ Some A.neutral
  invertible None f = absurd (f refl)
  invertible (Some a) f = ap Some (laws.sum_opposite a)

  delta_differs : Some A.step ≢ Some A.neutral
  delta_differs e = let same : A.step ≡ A.neutral = cc in
      less_itself A.step (ap (A.less A.step) same ∙ laws.step_below)

  delta_next : (a b : Option G) → Le (with_bottom A) a b → a ≢ b →
      Le (with_bottom A) a (times_of A (Some A.step) b)
  delta_next None b h d = refl
  delta_next (Some a) None h d = absurd (d h)
  delta_next (Some a) (Some b) h d = let e : greater_of A a b ≡ b = cc in
      ap Some (greater-next a b e (λ q. d (ap Some q)))

  size_times : (a b : Option G) → size_of A (times_of A a b) ≤ size_of A a + size_of A b
  size_times None b = omega arith
  size_times (Some a) None = omega arith
  size_times (Some a) (Some b) = laws.size_sum a b

  size_inverse : (a : Option G) → a ≢ None → size_of A (inverse_of A a) ≡ size_of A a
  size_inverse None f = refl
  size_inverse (Some a) f = laws.size_opposite a

  size_plus : (a b : Option G) → size_of A (plus_of A a b) ≤ max (size_of A a) (size_of A b)
  size_plus None b = omega arith
  size_plus (Some a) None = omega arith
  size_plus (Some a) (Some b) = size_greater a b

  discrete : (a b : Option G) → (a ≡ b) ⊎ (a ≢ b)
  discrete None None = inl refl
  discrete None (Some b) = inr (λ e. cc)
  discrete (Some a) None = inr (λ e. cc)
  discrete (Some a) (Some b) = ⊎_elim (λ e. inl (ap Some e)) (λ d. inr (λ e. d cc)) (same_or_not a b)

  pub bottom_laws : SemiringLaws (with_bottom A)
  bottom_laws = record {
    plus_assoc = plus_assoc;
    plus_comm = plus_comm;
    selective = selective;
    zero_neutral = λ a. refl;
    times_assoc = times_assoc;
    times_comm = times_comm;
    distributes = distributes;
    one_neutral = one_neutral;
    zero_absorbs = λ a. refl;
    invertible = invertible;
    one_finite = λ e. cc;
    delta_below = ap Some (second A.step A.neutral laws.step_below);
    delta_differs = delta_differs;
    delta_next = delta_next;
    size_times = size_times;
    size_inverse = size_inverse;
    size_plus = size_plus;
    size_delta = laws.size_step;
    size_zero = refl;
    size_one = laws.size_neutral;
    discrete = discrete;
  }

  -- ---- the order reversed

  back : (a : G) → A.sum (A.opposite A.step) (A.sum A.step a) ≡ a
  back a = sym (laws.sum_assoc (A.opposite A.step) A.step a)
      ∙ ap (λ z. A.sum z a) (laws.sum_comm (A.opposite A.step) A.step ∙ laws.sum_opposite A.step) ∙ laws.sum_neutral a

  -- a step up is the way back from a step down
  less-back : (a b : G) → A.less a (A.sum (A.opposite A.step) b) ≡ A.less (A.sum A.step a) b
  less-back a b =
      ap (λ z. A.less z (A.sum (A.opposite A.step) b)) (sym (back a))
      ∙ laws.less-sum (A.opposite A.step) (A.sum A.step a) b

  pub reversed_laws : OrderedGroupLaws (reversed A)
  reversed_laws = record {
    less_apart = λ a b p. laws.less_apart b a p;
    less_total = λ a b p q. laws.less_total a b q p;
    less_trans = λ a b c p q. laws.less_trans c b a q p;
    less-sum = λ a b c. laws.less-sum a c b;
    sum_assoc = laws.sum_assoc;
    sum_comm = laws.sum_comm;
    sum_neutral = laws.sum_neutral;
    sum_opposite = laws.sum_opposite;
    step_below =
        ap (A.less A.neutral) (sym (laws.sum_neutral (A.opposite A.step))
        ∙ laws.sum_comm A.neutral (A.opposite A.step))
        ∙ less-back A.neutral A.neutral
        ∙ ap (λ z. A.less z A.neutral) (laws.sum_comm A.step A.neutral ∙ laws.sum_neutral A.step)
        ∙ laws.step_below;
    step_next = λ a b p. less-back a b ∙ laws.step_next b a p;
    size_sum = laws.size_sum;
    size_opposite = laws.size_opposite;
    size_step = subst (λ n. n ≤ 1) (sym (laws.size_opposite A.step)) laws.size_step;
    size_neutral = laws.size_neutral;
  }
