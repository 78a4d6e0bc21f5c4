-- One more bound: the new matrix is shortest, and its zone has the states of the old one that keep the bound.
-- Index: Via, admits-decided, none-added, added-cases, added-old, added-shortest, added-zone, zone-added.
use Rattle.std.proofs.Common.{◌≡◌, ◌⊎◌, inl, inr, ⊎_elim, ◌≤◌, ℕ, ℤ, pos, ◌+ℤ◌, ◌-ℤ◌, ◌≤ℤ◌, ◌<ℤ◌, Some, None, refl, sym, subst, arith}
use Rattle.std.proofs.lemmas.Int.{ints}
use Rattle.prog_theory.specs.States.{State, coordinate}
use Rattle.zone_theory.specs.Bounds.{Bound, IsAtMost, plus}
use Rattle.zone_theory.specs.Matrices.{Matrix, InZone, entry, difference}
use Rattle.zone_theory.specs.Shortest.{IsShortest}
use Rattle.zone_theory.specs.Adding.{added, Admits}
use Rattle.zone_theory.proofs.Bounds.{le_same, lt_or_le, least-cases, least-left, least-right, plus-parts, plus-both}
use Rattle.zone_theory.proofs.Entries.{same_or_apart, entry-zero, zero-entry, entry-apart, InZone-entry, InZone-from}

-- a way from k to l over the new bound has a sum of at most a
pub record Via (m : Matrix) (i j : ℕ) (c : ℤ) (k l : ℕ) (a : ℤ) : Type 0 where
  pub x : ℤ
  pub y : ℤ
  pub before : IsAtMost (entry m k i) x
  pub after : IsAtMost (entry m j l) y
  pub sum : ((x +ℤ c) +ℤ y) ≤ℤ a

-- whether the bound leaves a state
pub admits-decided : (m : Matrix) (i j : ℕ) (c : ℤ) → Admits m i j c ⊎
    ((a : ℤ) × IsAtMost (entry m j i) a × ((c +ℤ a) <ℤ pos 0))
admits-decided m i j c = go (entry m j i) refl
  where
    go : (b : Bound) → entry m j i ≡ b → Admits m i j c ⊎ ((a : ℤ) × IsAtMost (entry m j i) a × ((c +ℤ a) <ℤ pos 0))
    go None e = inl (λ a h. absurd (subst (λ b. IsAtMost b a) e h))
    go (Some b) e = ⊎_elim
        (λ l. inr (b, subst (λ o. IsAtMost o b) (sym e) (le_same b), l))
        (λ l. inl (λ a h. let p : b ≤ℤ a = subst (λ o. IsAtMost o a) e h in omega (arith, ints)))
        (lt_or_le (c +ℤ b) (pos 0))

-- where it isn't admitted, no state of the zone keeps it
pub none-added : (d : ℕ) (m : Matrix) (i j : ℕ) → i ≤ d → j ≤ d → (c a : ℤ) → IsAtMost (entry m j i) a
    → (c +ℤ a) <ℤ pos 0 → (s : State) → InZone d m s → difference s i j ≤ℤ c → ⊥
none-added d m i j hi hj c a h l s z k = clash (coordinate s i) (coordinate s j)
    (InZone-entry d m s z j i hj hi a h) k l
  where
    clash : (x y : ℤ) → (y -ℤ x) ≤ℤ a → (x -ℤ y) ≤ℤ c → (c +ℤ a) <ℤ pos 0 → ⊥
    clash x y p q r = omega (arith, ints)

module _ (d : ℕ) (m : Matrix) (tight : IsShortest d m) (i j : ℕ) (hi : i ≤ d) (hj : j ≤ d) (c : ℤ)
    (admits : Admits m i j c) where
  pub added-cases : (k l : ℕ) (a : ℤ) → IsAtMost (entry (added m i j c) k l) a
      → IsAtMost (entry m k l) a ⊎ Via m i j c k l a
  added-cases k l a h = ⊎_elim
      (λ e. inl (subst (λ y. IsAtMost (entry m k y) a) e
      (zero-entry m k a (entry-zero (added m i j c) k a
      (subst (λ y. IsAtMost (entry (added m i j c) k y) a) (sym e) h)))))
      (λ n. apart (least-cases (entry m k l) (plus (plus (entry m k i) (Some c)) (entry m j l)) a
      (subst (λ b. IsAtMost b a) (entry-apart (added m i j c) k l n) h)))
      (same_or_apart k l)
    where
      apart : IsAtMost (entry m k l) a ⊎ IsAtMost (plus (plus (entry m k i) (Some c)) (entry m j l)) a
          → IsAtMost (entry m k l) a ⊎ Via m i j c k l a
      apart = ⊎_elim (λ h. inl h) (λ h. outer (plus-parts (plus (entry m k i) (Some c)) (entry m j l) a h))
        where
          outer : (x : ℤ) × (y : ℤ) × IsAtMost (plus (entry m k i) (Some c)) x × IsAtMost (entry m j l) y ×
              ((x +ℤ y) ≤ℤ a) → IsAtMost (entry m k l) a ⊎ Via m i j c k l a
          outer r = inner (plus-parts (entry m k i) (Some c) r.0 r.2)
            where
              inner : (x : ℤ) × (y : ℤ) × IsAtMost (entry m k i) x × IsAtMost (Some c) y × ((x +ℤ y) ≤ℤ r.0)
                  → IsAtMost (entry m k l) a ⊎ Via m i j c k l a
              inner q =
                  inr (record { x = q.0; y = r.1; before = q.2; after = r.3; sum = add q.0 q.1 r.0 r.1 q.3 q.4 r.4 })
                where
                  add : (x y u v : ℤ) → c ≤ℤ y → (x +ℤ y) ≤ℤ u → (u +ℤ v) ≤ℤ a → ((x +ℤ c) +ℤ v) ≤ℤ a
                  add x y u v p q r = omega (arith, ints)

  pub added-old : (k l : ℕ) (a : ℤ) → IsAtMost (entry m k l) a → IsAtMost (entry (added m i j c) k l) a
  added-old k l a h = ⊎_elim
      (λ e. subst (λ y. IsAtMost (entry (added m i j c) k y) a) e
      (zero-entry (added m i j c) k a (entry-zero m k a (subst (λ y. IsAtMost (entry m k y) a) (sym e) h))))
      (λ n. subst (λ b. IsAtMost b a) (sym (entry-apart (added m i j c) k l n))
      (least-left (entry m k l) (plus (plus (entry m k i) (Some c)) (entry m j l)) a h))
      (same_or_apart k l)

  added-via : (k l : ℕ) → k ≤ d → l ≤ d → (a : ℤ) → Via m i j c k l a → IsAtMost (entry (added m i j c) k l) a
  added-via k l hk hl a v = ⊎_elim
      (λ e. subst (λ y. IsAtMost (entry (added m i j c) k y) a) e (zero-entry (added m i j c) k a (back e)))
      (λ n. subst (λ b. IsAtMost b a) (sym (entry-apart (added m i j c) k l n))
      (least-right (entry m k l) (plus (plus (entry m k i) (Some c)) (entry m j l)) a
      (plus-both (plus (entry m k i) (Some c)) (entry m j l) (v.x +ℤ c) v.y a
      (plus-both (entry m k i) (Some c) v.x c (v.x +ℤ c) v.before (le_same c) (le_same (v.x +ℤ c))) v.after v.sum)))
      (same_or_apart k l)
    where
      back : k ≡ l → pos 0 ≤ℤ a
      back e =
          round v.x v.y
          (admits (v.y +ℤ v.x) (tight.triangle j k i hj hk hi v.y v.x
          (subst (λ y. IsAtMost (entry m j y) v.y) (sym e) v.after) v.before)) v.sum
        where
          round : (x y : ℤ) → pos 0 ≤ℤ (c +ℤ (y +ℤ x)) → ((x +ℤ c) +ℤ y) ≤ℤ a → pos 0 ≤ℤ a
          round x y p q = omega (arith, ints)

  -- the new matrix is shortest
  pub added-shortest : IsShortest d (added m i j c)
  added-shortest =
      record {
        triangle = λ k o l hk ho hl a b ha hb. two k o l hk ho hl a b (added-cases k o a ha)
            (added-cases o l b hb);
      }
    where
      two : (k o l : ℕ) → k ≤ d → o ≤ d → l ≤ d → (a b : ℤ) → IsAtMost (entry m k o) a ⊎ Via m i j c k o a
          → IsAtMost (entry m o l) b ⊎ Via m i j c o l b → IsAtMost (entry (added m i j c) k l) (a +ℤ b)
      two k o l hk ho hl a b = ⊎_elim
          (λ p. ⊎_elim
          (λ q. added-old k l (a +ℤ b) (tight.triangle k o l hk ho hl a b p q))
          (λ q. added-via k l hk hl (a +ℤ b) (record {
            x = a +ℤ q.x;
            y = q.y;
            before =
                tight.triangle k o i hk ho hi a q.x p q.before;
            after = q.after;
            sum = one q.x q.y q.sum;
          })))
          (λ p. ⊎_elim
          (λ q. added-via k l hk hl (a +ℤ b) (record {
            x = p.x;
            y = p.y +ℤ b;
            before = p.before;
            after =
                tight.triangle j o l hj ho hl p.y b p.after q;
            sum = other p.x p.y p.sum;
          }))
          (λ q. added-via k l hk hl (a +ℤ b) (record {
            x = p.x;
            y = q.y;
            before = p.before;
            after = q.after;
            sum =
                both p.x p.y q.x q.y p.sum q.sum (admits (p.y +ℤ q.x)
                (tight.triangle j o i hj ho hi p.y q.x p.after q.before));
          })))
        where
          one : (x y : ℤ) → ((x +ℤ c) +ℤ y) ≤ℤ b → (((a +ℤ x) +ℤ c) +ℤ y) ≤ℤ (a +ℤ b)
          one x y h = omega (arith, ints)

          other : (x y : ℤ) → ((x +ℤ c) +ℤ y) ≤ℤ a → ((x +ℤ c) +ℤ (y +ℤ b)) ≤ℤ (a +ℤ b)
          other x y h = omega (arith, ints)

          both : (x y u v : ℤ) → ((x +ℤ c) +ℤ y) ≤ℤ a → ((u +ℤ c) +ℤ v) ≤ℤ b → pos 0 ≤ℤ (c +ℤ (y +ℤ u))
              → ((x +ℤ c) +ℤ v) ≤ℤ (a +ℤ b)
          both x y u v p q r = omega (arith, ints)

  -- its zone is the part of the old one that keeps the bound
  pub added-zone : (s : State) → InZone d (added m i j c) s → InZone d m s × (difference s i j ≤ℤ c)
  added-zone s z = (
    record {
      size = z.size;
      bounds = InZone-from d m s
          (λ k l hk hl a h. InZone-entry d (added m i j c) s z k l hk hl a (added-old k l a h));
    },
    InZone-entry d (added m i j c) s z i j hi hj c (added-via i j hi hj c
        (record {
          x = pos 0;
          y = pos 0;
          before = zero-entry m i (pos 0) (le_same (pos 0));
          after =
              zero-entry m j (pos 0) (le_same (pos 0));
          sum = omega (arith, ints);
        })),
  )

  pub zone-added : (s : State) → InZone d m s → difference s i j ≤ℤ c → InZone d (added m i j c) s
  zone-added s z h =
      record {
        size = z.size;
        bounds = InZone-from d (added m i j c) s
            (λ k l hk hl a q. ⊎_elim (λ p. InZone-entry d m s z k l hk hl a p) (λ v. over k l hk hl a v)
            (added-cases k l a q));
      }
    where
      over : (k l : ℕ) → k ≤ d → l ≤ d → (a : ℤ) → Via m i j c k l a → difference s k l ≤ℤ a
      over k l hk hl a v = walk (coordinate s k) (coordinate s i) (coordinate s j) (coordinate s l) v.x v.y
          (InZone-entry d m s z k i hk hi v.x v.before) h (InZone-entry d m s z j l hj hl v.y v.after) v.sum
        where
          walk : (sk si sj sl x y : ℤ) → (sk -ℤ si) ≤ℤ x → (si -ℤ sj) ≤ℤ c → (sj -ℤ sl) ≤ℤ y → ((x +ℤ c) +ℤ y) ≤ℤ a
              → (sk -ℤ sl) ≤ℤ a
          walk sk si sj sl x y p q r t = omega (arith, ints)
