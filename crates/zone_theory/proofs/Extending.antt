-- A state of some coordinates that keeps the bounds of a shortest matrix is part of a state of its zone.
-- Index: Fits, put, put-same, put-other, Extends, extend_one, extend_below, zone-extends.
use Rattle.std.proofs.Common.{◌≡◌, ◌≢◌, ⊎_elim, ◌≤◌, ◌<◌, ℕ, zero, suc, ℤ, pos, ◌+ℤ◌, ◌-ℤ◌, ◌≤ℤ◌, cond, eqb, List, ◌∷◌, refl, sym, ap, subst, ◌∙◌, arith, Contains}
use Rattle.std.proofs.lemmas.Int.{ints}
use Rattle.prog_theory.specs.States.{State}
use Rattle.prog_theory.proofs.Elements.{Contains-here, Contains-there, Contains-cases}
use Rattle.zone_theory.specs.Bounds.{IsAtMost}
use Rattle.zone_theory.specs.Matrices.{Matrix, InZone, entry, difference}
use Rattle.zone_theory.specs.Shortest.{IsShortest}
use Rattle.zone_theory.proofs.Bounds.{le_both}
use Rattle.zone_theory.proofs.Entries.{eqb_same, eqb_apart, same_or_apart, entry-zero, zero-entry, InZone-from}
use Rattle.zone_theory.proofs.Between.{IsBetween, between}
use Rattle.zone_theory.proofs.Coordinates.{state_of, length-state_of, difference-state_of}

-- the values of f at the coordinates of K keep the bounds
pub record Fits (d : ℕ) (m : Matrix) (K : List ℕ) (f : ℕ → ℤ) : Type 0 where
  pub within : (i : ℕ) → Contains K i → i ≤ d
  pub keeps : (i j : ℕ) → Contains K i → Contains K j → (a : ℤ) → IsAtMost (entry m i j) a → (f i -ℤ f j) ≤ℤ a

-- f with the value v at k
pub put : (ℕ → ℤ) → ℕ → ℤ → ℕ → ℤ
put f k v i = cond (eqb i k) v (f i)

pub put-same : (f : ℕ → ℤ) (k : ℕ) (v : ℤ) → put f k v k ≡ v
unfolding put
put-same f k v = ap (λ b. cond b v (f k)) (eqb_same k)

pub put-other : (f : ℕ → ℤ) (k : ℕ) (v : ℤ) (i : ℕ) → i ≢ k → put f k v i ≡ f i
unfolding put
put-other f k v i n = ap (λ b. cond b v (f i)) (eqb_apart i k n)

-- g has the values of f at K, and fits at the coordinates of L, which has those of K
pub record Extends (d : ℕ) (m : Matrix) (K : List ℕ) (f : ℕ → ℤ) (L : List ℕ) (g : ℕ → ℤ) : Type 0 where
  pub fits : Fits d m L g
  pub has : (i : ℕ) → Contains K i → Contains L i
  pub same : (i : ℕ) → Contains K i → g i ≡ f i

minus_le : (x y a : ℤ) → x ≤ℤ (y +ℤ a) → (x -ℤ y) ≤ℤ a
minus_le x y a h = omega (arith, ints)

below_minus : (x y a : ℤ) → (x -ℤ a) ≤ℤ y → (x -ℤ y) ≤ℤ a
below_minus x y a h = omega (arith, ints)

apart_le : (x y a b : ℤ) → (x -ℤ y) ≤ℤ (a +ℤ b) → (x -ℤ a) ≤ℤ (y +ℤ b)
apart_le x y a b h = omega (arith, ints)

zero_le : (x a : ℤ) → pos 0 ≤ℤ a → (x -ℤ x) ≤ℤ a
zero_le x a h = omega (arith, ints)

module _ (d : ℕ) (m : Matrix) (tight : IsShortest d m) where
  -- one more coordinate
  pub extend_one : (K : List ℕ) (f : ℕ → ℤ) → Fits d m K f → (k : ℕ) → k ≤ d → (g : ℕ → ℤ) × Extends d m K f (k ∷ K) g
  extend_one K f fits k hk = go (between (λ l. entry m l k) (λ l. entry m k l) f K compatible)
    where
      compatible : (l j : ℕ) → Contains K l → Contains K j → (a b : ℤ) → IsAtMost (entry m l k) a
          → IsAtMost (entry m k j) b → (f l -ℤ a) ≤ℤ (f j +ℤ b)
      compatible l j cl cj a b ka kb = apart_le (f l) (f j) a b
          (fits.keeps l j cl cj (a +ℤ b) (tight.triangle l k j (fits.within l cl) hk (fits.within j cj) a b ka kb))

      go : (v : ℤ) × IsBetween (λ l. entry m l k) (λ l. entry m k l) f K v → (g : ℕ → ℤ) × Extends d m K f (k ∷ K) g
      go r = (
        g,
        record {
          fits = record { within = inside; keeps = all };
          has = λ i c. Contains-there k K i c;
          same =
              old;
        },
      )
        where
          g : ℕ → ℤ
          g = put f k r.0

          new : g k ≡ r.0
          new = put-same f k r.0

          old : (i : ℕ) → Contains K i → g i ≡ f i
          old i c = ⊎_elim at_k (λ n. put-other f k r.0 i n) (same_or_apart i k)
            where
              at_k : i ≡ k → g i ≡ f i
              at_k e = subst (λ j. g j ≡ f j) (sym e) (new ∙ le_both r.0 (f k) up down)
                where
                  ck : Contains K k
                  ck = subst (λ j. Contains K j) e c

                  down : f k ≤ℤ r.0
                  down = let h : (f k -ℤ pos 0) ≤ℤ r.0 =
                      r.1.above k ck (pos 0) (zero-entry m k (pos 0) (omega (arith, ints))) in omega (arith, ints)

                  up : r.0 ≤ℤ f k
                  up = let h : r.0 ≤ℤ (f k +ℤ pos 0) =
                      r.1.below k ck (pos 0) (zero-entry m k (pos 0) (omega (arith, ints))) in omega (arith, ints)

          inside : (i : ℕ) → Contains (k ∷ K) i → i ≤ d
          inside i c = ⊎_elim (λ e. subst (λ j. j ≤ d) (sym e) hk) (λ q. fits.within i q) (Contains-cases k K i c)

          from_k : (j : ℕ) → Contains K j → (a : ℤ) → IsAtMost (entry m k j) a → (g k -ℤ g j) ≤ℤ a
          from_k j c a h = subst (λ x. (x -ℤ g j) ≤ℤ a) (sym new)
              (subst (λ y. (r.0 -ℤ y) ≤ℤ a) (sym (old j c)) (minus_le r.0 (f j) a (r.1.below j c a h)))

          to_k : (i : ℕ) → Contains K i → (a : ℤ) → IsAtMost (entry m i k) a → (g i -ℤ g k) ≤ℤ a
          to_k i c a h = subst (λ y. (g i -ℤ y) ≤ℤ a) (sym new)
              (subst (λ x. (x -ℤ r.0) ≤ℤ a) (sym (old i c)) (below_minus (f i) r.0 a (r.1.above i c a h)))

          between_old : (i j : ℕ) → Contains K i → Contains K j → (a : ℤ) → IsAtMost (entry m i j) a → (g i -ℤ g j) ≤ℤ a
          between_old i j ci cj a h = subst (λ x. (x -ℤ g j) ≤ℤ a) (sym (old i ci))
              (subst (λ y. (f i -ℤ y) ≤ℤ a) (sym (old j cj)) (fits.keeps i j ci cj a h))

          all : (i j : ℕ) → Contains (k ∷ K) i → Contains (k ∷ K) j → (a : ℤ) → IsAtMost (entry m i j) a
              → (g i -ℤ g j) ≤ℤ a
          all i j ci cj a h = ⊎_elim
              (λ e. subst (λ x. (g x -ℤ g j) ≤ℤ a) (sym e) (⊎_elim
              (λ q. subst (λ y. (g k -ℤ g y) ≤ℤ a) (sym q)
              (zero_le (g k) a
              (entry-zero m k a (subst (λ y. IsAtMost (entry m k y) a) q
              (subst (λ x. IsAtMost (entry m x j) a) e h)))))
              (λ q. from_k j q a (subst (λ x. IsAtMost (entry m x j) a) e h))
              (Contains-cases k K j cj)))
              (λ p. ⊎_elim
              (λ q. subst (λ y. (g i -ℤ g y) ≤ℤ a) (sym q) (to_k i p a (subst (λ y. IsAtMost (entry m i y) a) q h)))
              (λ q. between_old i j p q a h)
              (Contains-cases k K j cj))
              (Contains-cases k K i ci)

  -- the coordinates below n
  pub extend_below : (K : List ℕ) (f : ℕ → ℤ) → Fits d m K f → (n : ℕ) → n ≤ suc d
      → (L : List ℕ) × (g : ℕ → ℤ) × Extends d m K f L g × ((i : ℕ) → i < n → Contains L i)
  extend_below K f fits zero h =
      (K, f, record { fits = fits; has = λ i c. c; same = λ i c. refl }, λ i l. absurd (omega arith))
  extend_below K f fits (suc n) h = go (extend_below K f fits n (omega arith))
    where
      go : ((L : List ℕ) × (g : ℕ → ℤ) × Extends d m K f L g × ((i : ℕ) → i < n → Contains L i))
          → (L : List ℕ) × (g : ℕ → ℤ) × Extends d m K f L g × ((i : ℕ) → i < suc n → Contains L i)
      go r = next (extend_one r.0 r.1 r.2.fits n (omega arith))
        where
          next : (g : ℕ → ℤ) × Extends d m r.0 r.1 (n ∷ r.0) g
              → (L : List ℕ) × (g : ℕ → ℤ) × Extends d m K f L g × ((i : ℕ) → i < suc n → Contains L i)
          next s = (
            n ∷ r.0,
            s.0,
            record {
              fits = s.1.fits;
              has = λ i c. Contains-there n r.0 i (r.2.has i c);
              same =
                  λ i c. s.1.same i (r.2.has i c) ∙ r.2.same i c;
            },
            below,
          )
            where
              below : (i : ℕ) → i < suc n → Contains (n ∷ r.0) i
              below i l = ⊎_elim (λ e. subst (λ j. Contains (n ∷ r.0) j) (sym e) (Contains-here n r.0))
                  (λ q. Contains-there n r.0 i (r.3 i (omega (arith, q)))) (same_or_apart i n)

  -- Values that fit at some coordinates are, but for a common summand, those of a state of the zone.
  pub zone-extends : (K : List ℕ) (f : ℕ → ℤ) → Fits d m K f
      → (s : State) × InZone d m s × ((i j : ℕ) → Contains K i → Contains K j → difference s i j ≡ f i -ℤ f j)
  zone-extends K f fits = go (extend_below K f fits (suc d) (omega arith))
    where
      go : ((L : List ℕ) × (g : ℕ → ℤ) × Extends d m K f L g × ((i : ℕ) → i < suc d → Contains L i))
          → (s : State) × InZone d m s × ((i j : ℕ) → Contains K i → Contains K j → difference s i j ≡ f i -ℤ f j)
      go r = (
        state_of d r.1,
        record { size = length-state_of d r.1; bounds = InZone-from d m (state_of d r.1) kept },
        λ i j ci cj. difference-state_of d r.1 i j (fits.within i ci) (fits.within j cj)
            ∙ ap (λ x. x -ℤ r.1 j) (r.2.same i ci) ∙ ap (λ y. f i -ℤ y) (r.2.same j cj),
      )
        where
          kept : (i j : ℕ) → i ≤ d → j ≤ d → (a : ℤ) → IsAtMost (entry m i j) a → difference (state_of d r.1) i j ≤ℤ a
          kept i j hi hj a h = subst (λ z. z ≤ℤ a) (sym (difference-state_of d r.1 i j hi hj))
              (r.2.fits.keeps i j (r.3 i (omega arith)) (r.3 j (omega arith)) a h)
