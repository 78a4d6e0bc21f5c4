-- Limits are added one at a time: each set of them gives no state, or a shortest matrix whose zone has just the states
-- that meet them.
use Rattle.std.proofs.Common.{◌≡◌, ◌⊎◌, inl, inr, ⊎_elim, ℕ, ℤ, pos, ◌+ℤ◌, ◌≤ℤ◌, List, [], ◌∷◌, length, sym, subst, ◌∙◌, arith, Contains}
use Rattle.std.proofs.lemmas.Int.{ints}
use Rattle.prog_theory.specs.States.{State}
use Rattle.prog_theory.proofs.Elements.{Contains-none, Contains-here, Contains-there, Contains-cases}
use Rattle.zone_theory.specs.Bounds.{IsAtMost}
use Rattle.zone_theory.specs.Matrices.{Matrix, InZone, entry, free}
use Rattle.zone_theory.specs.Shortest.{IsShortest}
use Rattle.zone_theory.specs.Adding.{added, Admits}
use Rattle.zone_theory.specs.Limits.{Limit, Meets, IsIn}
use Rattle.zone_theory.proofs.Entries.{same_or_apart, entry-zero, zero-entry, entry-apart}
use Rattle.zone_theory.proofs.Adding.{admits-decided, none-added, added-shortest, added-zone, zone-added}

-- the matrix without a number is shortest, and its zone has each state
pub free-shortest : (d : ℕ) → IsShortest d free
free-shortest d = record { triangle = λ i k j hi hk hj a b ha hb. go i k j a b (only i k a ha) (only k j b hb) ha hb }
  where
    only : (i j : ℕ) (a : ℤ) → IsAtMost (entry free i j) a → i ≡ j
    only i j a h = ⊎_elim (λ e. e) (λ n. absurd (subst (λ b. IsAtMost b a) (entry-apart free i j n) h))
        (same_or_apart i j)

    go : (i k j : ℕ) (a b : ℤ) → i ≡ k → k ≡ j → IsAtMost (entry free i k) a → IsAtMost (entry free k j) b
        → IsAtMost (entry free i j) (a +ℤ b)
    go i k j a b e q ha hb = subst (λ y. IsAtMost (entry free i y) (a +ℤ b)) (e ∙ q)
        (zero-entry free i (a +ℤ b) (sum (entry-zero free i a (subst (λ y. IsAtMost (entry free i y) a) (sym e) ha))
        (entry-zero free k b (subst (λ y. IsAtMost (entry free k y) b) (sym q) hb))))
      where
        sum : pos 0 ≤ℤ a → pos 0 ≤ℤ b → pos 0 ≤ℤ (a +ℤ b)
        sum x y = omega (arith, ints)

pub free-all : (d : ℕ) (s : State) → length s ≡ d → InZone d free s
free-all d s e = record { size = e; bounds = λ i j hi hj n. tt }

-- the states of the zone of m that meet each limit of the list
pub record Meeting (d : ℕ) (m : Matrix) (bs : List Limit) (s : State) : Type 0 where
  pub zone : InZone d m s
  pub each : (b : Limit) → Contains bs b → Meets b s

-- what closing a matrix and a list of limits gives
pub record Closing (d : ℕ) (m : Matrix) (bs : List Limit) (u : Matrix) : Type 0 where
  pub shortest : IsShortest d u
  pub meeting : (s : State) → InZone d u s → Meeting d m bs s
  pub zone : (s : State) → Meeting d m bs s → InZone d u s

pub limits-close : (d : ℕ) (bs : List Limit) (m : Matrix) → IsShortest d m → ((b : Limit) → Contains bs b → IsIn d b)
    → ((s : State) → Meeting d m bs s → ⊥) ⊎ ((u : Matrix) × Closing d m bs u)
limits-close d [] m tight h =
    inr (
      m,
      record {
        shortest = tight;
        meeting = λ s z. record {
          zone = z;
          each =
              λ b c. absurd (Contains-none b c);
        };
        zone = λ s z. z.zone;
      },
    )
limits-close d (b ∷ bs) m tight h = ⊎_elim
    (λ admits. next admits (limits-close d bs (added m b.high b.low b.most)
    (added-shortest d m tight b.high b.low inside.high inside.low b.most admits)
    (λ x c. h x (Contains-there b bs x c))))
    (λ r. inl (λ s z. none-added d m b.high b.low inside.high inside.low b.most r.0 r.1 r.2 s z.zone
    (z.each b (Contains-here b bs))))
    (admits-decided m b.high b.low b.most)
  where
    inside : IsIn d b
    inside = h b (Contains-here b bs)

    u : Matrix
    u = added m b.high b.low b.most

    one_more : Admits m b.high b.low b.most → (s : State) → Meeting d m (b ∷ bs) s → Meeting d u bs s
    one_more admits s z =
        record {
          zone = zone-added d m tight b.high b.low inside.high inside.low b.most admits s z.zone
              (z.each b (Contains-here b bs));
          each = λ x c. z.each x (Contains-there b bs x c);
        }

    one_less : Admits m b.high b.low b.most → (s : State) → Meeting d u bs s → Meeting d m (b ∷ bs) s
    one_less admits s z = let q = added-zone d m tight b.high b.low inside.high inside.low b.most admits s z.zone in
        record {
          zone = q.0;
          each = λ x c. ⊎_elim (λ e. subst (λ y. Meets y s) (sym e) q.1) (λ k. z.each x k)
              (Contains-cases b bs x c);
        }

    next : Admits m b.high b.low b.most → ((s : State) → Meeting d u bs s → ⊥) ⊎ ((w : Matrix) × Closing d u bs w)
        → ((s : State) → Meeting d m (b ∷ bs) s → ⊥) ⊎ ((w : Matrix) × Closing d m (b ∷ bs) w)
    next admits = ⊎_elim
        (λ none. inl (λ s z. none s (one_more admits s z)))
        (λ r. inr (
          r.0,
          record {
            shortest = r.1.shortest;
            meeting = λ s z. one_less admits s (r.1.meeting s z);
            zone =
                λ s z. r.1.zone s (one_more admits s z);
          },
        ))
