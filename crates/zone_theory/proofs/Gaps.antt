-- Among d + 1 numbers there is a gap not far below each of them.
use Rattle.std.proofs.Common.{◌≡◌, ◌⊎◌, inl, inr, ⊎_elim, ◌≤◌, ◌<◌, ◌*◌, ℕ, zero, suc, ℤ, pos, ◌+ℤ◌, ◌≤ℤ◌, ◌<ℤ◌, refl, sym, subst, ◌∙◌, arith}
use Rattle.std.proofs.lemmas.Int.{ints}
use Rattle.zone_theory.specs.Width.{total}
use Rattle.zone_theory.proofs.Bounds.{le_same, lt_or_le}
use Rattle.zone_theory.proofs.Entries.{same_or_apart}
use Rattle.zone_theory.proofs.Totals.{total-falls, total-gap}

-- 1 where x is below t, else 0
below : ℤ → ℤ → ℕ
below t x = ⊎_elim (λ l. 1) (λ l. 0) (lt_or_le x t)

below-yes : (t x : ℤ) → x <ℤ t → below t x ≡ 1
unfolding below
below-yes t x h = go (lt_or_le x t)
  where
    go : (r : (x <ℤ t) ⊎ (t ≤ℤ x)) → ⊎_elim {C = ℕ} (λ l. 1) (λ l. 0) r ≡ 1
    go (inl l) = refl
    go (inr l) = absurd (clash l h)
      where
        clash : t ≤ℤ x → x <ℤ t → ⊥
        clash a b = omega (arith, ints)

below-no : (t x : ℤ) → t ≤ℤ x → below t x ≡ 0
unfolding below
below-no t x h = go (lt_or_le x t)
  where
    go : (r : (x <ℤ t) ⊎ (t ≤ℤ x)) → ⊎_elim {C = ℕ} (λ l. 1) (λ l. 0) r ≡ 0
    go (inl l) = absurd (clash h l)
      where
        clash : t ≤ℤ x → x <ℤ t → ⊥
        clash a b = omega (arith, ints)
    go (inr l) = refl

below-le : (t x : ℤ) → below t x ≤ 1
below-le t x = ⊎_elim (λ l. subst (λ n. n ≤ 1) (sym (below-yes t x l)) (omega arith))
    (λ l. subst (λ n. n ≤ 1) (sym (below-no t x l)) (omega arith)) (lt_or_le x t)

below-mono : (t u x : ℤ) → t ≤ℤ u → below t x ≤ below u x
below-mono t u x h = ⊎_elim
    (λ l. subst (λ n. below t x ≤ n) (sym (below-yes u x l)) (below-le t x))
    (λ l. subst (λ n. n ≤ below u x) (sym (below-no t x (trans t u x h l))) (omega arith))
    (lt_or_le x u)
  where
    trans : (x y z : ℤ) → x ≤ℤ y → y ≤ℤ z → x ≤ℤ z
    trans x y z a b = omega (arith, ints)

module _ (f : ℕ → ℤ) (B d : ℕ) where
  -- no value is below t and within B of it
  pub record IsGap (t : ℤ) : Type 0 where
    pub far : (i : ℕ) → i ≤ d → f i <ℤ t → (f i +ℤ pos B) <ℤ t

  count : ℤ → ℕ
  count t = total (λ i. below t (f i)) (suc d)

  -- a value below t and within B of it, or none
  search_near : (t : ℤ) (n : ℕ) → ((i : ℕ) × (i < n) × (f i <ℤ t) × (t ≤ℤ (f i +ℤ pos B))) ⊎
      ((i : ℕ) → i < n → f i <ℤ t → (f i +ℤ pos B) <ℤ t)
  search_near t zero = inr (λ i l. absurd (omega arith))
  search_near t (suc n) = ⊎_elim
      (λ r. inl (r.0, let l : r.0 < n = r.1 in omega arith, r.2, r.3))
      (λ none. ⊎_elim
      (λ l. ⊎_elim
      (λ k. inr (λ i hi h. ⊎_elim (λ e. subst (λ x. (f x +ℤ pos B) <ℤ t) (sym e) k)
      (λ ne. none i (omega (arith, ne)) h) (same_or_apart i n)))
      (λ k. inl (n, omega arith, l, k))
      (lt_or_le (f n +ℤ pos B) t))
      (λ k. inr (λ i hi h. ⊎_elim (λ e. absurd (clash (f n) k (subst (λ x. f x <ℤ t) e h)))
      (λ ne. none i (omega (arith, ne)) h) (same_or_apart i n)))
      (lt_or_le (f n) t))
      (search_near t n)
    where
      clash : (x : ℤ) → t ≤ℤ x → x <ℤ t → ⊥
      clash x a b = omega (arith, ints)

  count-falls : (t : ℤ) (i : ℕ) → i ≤ d → f i <ℤ t → count (f i) < count t
  unfolding count
  count-falls t i hi h =
      ⊎_elim (λ l. l)
      (λ same. absurd
      (clash (sym (below-no (f i) (f i) (le_same (f i))) ∙ same i (omega arith) ∙ below-yes t (f i) h)))
      (total-falls (λ k. below (f i) (f k)) (λ k. below t (f k)) (suc d)
      (λ k hk. below-mono (f i) t (f k) (weak (f i) t h)))
    where
      clash : ◌≡◌ {A = ℕ} 0 1 → ⊥
      clash e = omega arith

      weak : (x y : ℤ) → x <ℤ y → x ≤ℤ y
      weak x y a = omega (arith, ints)

  gap-below : (n : ℕ) (t : ℤ) → count t ≤ n → (u : ℤ) × (u ≤ℤ t) × (t ≤ℤ (u +ℤ pos (n * B))) × IsGap u
  gap-below zero t h = ⊎_elim
      (λ r. absurd (none (count-falls t r.0 (let l : r.0 < suc d = r.1 in omega arith) r.2)))
      (λ far. (t, le_same t, omega (arith, ints), record { far = λ i hi. far i (omega arith) }))
      (search_near t (suc d))
    where
      none : {x : ℕ} → x < count t → ⊥
      none l = omega (arith, h)
  gap-below (suc n) t h = ⊎_elim
      (λ r. next r.0 r.2 r.3 (gap-below n (f r.0) (let l : count (f r.0) < count t =
      count-falls t r.0 (let l : r.0 < suc d = r.1 in omega arith) r.2 in omega (arith, h))))
      (λ far. (t, le_same t, omega (arith, ints), record { far = λ i hi. far i (omega arith) }))
      (search_near t (suc d))
    where
      next : (i : ℕ) → f i <ℤ t → t ≤ℤ (f i +ℤ pos B) → (u : ℤ) × (u ≤ℤ f i) × (f i ≤ℤ (u +ℤ pos (n * B))) × IsGap u
          → (u : ℤ) × (u ≤ℤ t) × (t ≤ℤ (u +ℤ pos (suc n * B))) × IsGap u
      next i l k r = (r.0, low (f i) r.0 l r.1, high (f i) r.0 k r.2, r.3)
        where
          low : (x u : ℤ) → x <ℤ t → u ≤ℤ x → u ≤ℤ t
          low x u a b = omega (arith, ints)

          high : (x u : ℤ) → t ≤ℤ (x +ℤ pos B) → x ≤ℤ (u +ℤ pos (n * B)) → t ≤ℤ (u +ℤ pos (suc n * B))
          high x u a b = omega (arith, ints)

  -- below the value at k there is a gap, no further than d times B
  pub gap-from : (k : ℕ) → k ≤ d → (u : ℤ) × (u ≤ℤ f k) × (f k ≤ℤ (u +ℤ pos (d * B))) × IsGap u
  unfolding count
  gap-from k hk =
      gap-below d (f k) (total-gap (λ i. below (f k) (f i)) d k (λ i hi. below-le (f k) (f i)) (omega arith)
      (below-no (f k) (f k) (le_same (f k))))
