-- Each matrix has an empty zone or a closed matrix.
use Rattle.std.proofs.Common.{◌≡◌, ◌≢◌, ◌⊎◌, inl, inr, ⊎_elim, ◌≤◌, ◌<◌, ℕ, zero, suc, ℤ, Bool, true, false, cond, eqb, [], ◌∷◌, length, Some, None, refl, sym, ap, subst, ◌∙◌, arith, Contains}
use Rattle.std.proofs.lemmas.List.Elements.{Contains-append_left, Contains-append_right, Contains-append_cases}
use Rattle.prog_theory.specs.States.{State}
use Rattle.prog_theory.proofs.Elements.{Contains-none, Contains-here, Contains-cases}
use Rattle.zone_theory.specs.Bounds.{Bound, Keeps, IsAtMost}
use Rattle.zone_theory.specs.Matrices.{Matrix, InZone, difference, free}
use Rattle.zone_theory.specs.Closed.{IsClosed}
use Rattle.zone_theory.specs.Limits.{Limit, Meets, IsIn, number, row, rows, limits}
use Rattle.zone_theory.proofs.Bounds.{le_same, Keeps-at_most}
use Rattle.zone_theory.proofs.Entries.{same_or_apart, eqb_same, eqb_apart}
use Rattle.zone_theory.proofs.Closing.{shortest-closed, closed-same_set}
use Rattle.zone_theory.proofs.Limits.{Meeting, limits-close, free-shortest, free-all}

-- the limit stands in the matrix
pub record IsOf (m : Matrix) (b : Limit) : Type 0 where
  pub apart : b.high ≢ b.low
  pub number : m b.high b.low ≡ Some b.most

number-of : (m : Matrix) (i j : ℕ) (o : Bound) → m i j ≡ o → (b : Limit) → Contains (number i j o) b
    → IsOf m b × (b.high ≡ i) × (b.low ≡ j)
number-of m i j None e b h = absurd (Contains-none b h)
number-of m i j (Some c) e b h = go (eqb i j) refl h
  where
    l : Limit
    l = record { high = i; low = j; most = c }

    go : (t : Bool) → eqb i j ≡ t → Contains (cond t [] (l ∷ [])) b → IsOf m b × (b.high ≡ i) × (b.low ≡ j)
    go true q h = absurd (Contains-none b h)
    go false q h =
        ⊎_elim (λ p. subst (λ x. IsOf m x × (x.high ≡ i) × (x.low ≡ j)) (sym p)
        (record { apart = λ w. false_true (sym q ∙ ap (λ y. eqb i y) (sym w) ∙ eqb_same i); number = e }, refl, refl))
        (λ p. absurd (Contains-none b p)) (Contains-cases l [] b h)
      where
        false_true : false ≡ true → ⊥
        false_true p = cc

of-number : (i j : ℕ) (o : Bound) (c : ℤ) → i ≢ j → o ≡ Some c
    → Contains (number i j o) (record { high = i; low = j; most = c })
of-number i j o c n e = subst (λ o. Contains (number i j o) l) (sym e)
    (subst (λ t. Contains (cond t [] (l ∷ [])) l) (sym (eqb_apart i j n)) (Contains-here l []))
  where
    l : Limit
    l = record { high = i; low = j; most = c }

row-of : (m : Matrix) (i n : ℕ) (b : Limit) → Contains (row m i n) b → IsOf m b × (b.high ≡ i) × (b.low < n)
row-of m i zero b h = absurd (Contains-none b h)
row-of m i (suc n) b h = ⊎_elim
    (λ p. let r = row-of m i n b p in let l : b.low < n = r.2 in (r.0, r.1, omega arith))
    (λ p. let r = number-of m i n (m i n) refl b p in let e : b.low ≡ n = r.2 in (r.0, r.1, omega arith))
    (Contains-append_cases (row m i n) (number i n (m i n)) b h)

rows-of : (m : Matrix) (n k : ℕ) (b : Limit) → Contains (rows m n k) b → IsOf m b × (b.high < k) × (b.low < n)
rows-of m n zero b h = absurd (Contains-none b h)
rows-of m n (suc k) b h = ⊎_elim
    (λ p. let r = rows-of m n k b p in let l : b.high < k = r.1 in (r.0, omega arith, r.2))
    (λ p. let r = row-of m k n b p in let e : b.high ≡ k = r.1 in (r.0, omega arith, r.2))
    (Contains-append_cases (rows m n k) (row m k n) b h)

of-row : (m : Matrix) (i n j : ℕ) (c : ℤ) → j < n → i ≢ j → m i j ≡ Some c
    → Contains (row m i n) (record { high = i; low = j; most = c })
of-row m i zero j c h ne e = absurd (omega arith)
of-row m i (suc n) j c h ne e = ⊎_elim
    (λ q. Contains-append_right (row m i n) (number i n (m i n)) l
    (subst (λ y. Contains (number i y (m i y)) l) q (of-number i j (m i j) c ne e)))
    (λ q. Contains-append_left (row m i n) (number i n (m i n)) l (of-row m i n j c (omega (arith, q)) ne e))
    (same_or_apart j n)
  where
    l : Limit
    l = record { high = i; low = j; most = c }

of-rows : (m : Matrix) (n k i j : ℕ) (c : ℤ) → i < k → j < n → i ≢ j → m i j ≡ Some c
    → Contains (rows m n k) (record { high = i; low = j; most = c })
of-rows m n zero i j c hi hj ne e = absurd (omega arith)
of-rows m n (suc k) i j c hi hj ne e = ⊎_elim
    (λ q. Contains-append_right (rows m n k) (row m k n) l
    (subst (λ x. Contains (row m x n) l) q (of-row m i n j c hj ne e)))
    (λ q. Contains-append_left (rows m n k) (row m k n) l (of-rows m n k i j c (omega (arith, q)) hj ne e))
    (same_or_apart i k)
  where
    l : Limit
    l = record { high = i; low = j; most = c }

pub limits-in : (d : ℕ) (m : Matrix) (b : Limit) → Contains (limits d m) b → IsIn d b
limits-in d m b h = let r = rows-of m (suc d) (suc d) b h in let p : b.high < suc d = r.1 in let q : b.low < suc d =
    r.2 in record { high = omega arith; low = omega arith }

-- the zone of a matrix is the states that meet its numbers
pub limits-zone : (d : ℕ) (m : Matrix) (s : State) → length s ≡ d → ((b : Limit) → Contains (limits d m) b → Meets b s)
    → InZone d m s
limits-zone d m s e h = record { size = e; bounds = λ i j hi hj n. go i j hi hj n (m i j) refl }
  where
    go : (i j : ℕ) → i ≤ d → j ≤ d → i ≢ j → (o : Bound) → m i j ≡ o → Keeps o (difference s i j)
    go i j hi hj n None q = tt
    go i j hi hj n (Some c) q = h (record { high = i; low = j; most = c })
        (of-rows m (suc d) (suc d) i j c (omega arith) (omega arith) n q)

pub zone-limits : (d : ℕ) (m : Matrix) (s : State) → InZone d m s → (b : Limit) → Contains (limits d m) b → Meets b s
zone-limits d m s z b h = let r = (rows-of m (suc d) (suc d) b h).0 in let w =
    limits-in d m b h in Keeps-at_most (m b.high b.low) (difference s b.high b.low) b.most
    (z.bounds b.high b.low w.high w.low r.apart) (subst (λ o. IsAtMost o b.most) (sym r.number) (le_same b.most))

pub matrix-closes : (d : ℕ) (m : Matrix) → ((s : State) → InZone d m s → ⊥) ⊎ ((u : Matrix) × IsClosed d (InZone d m) u)
matrix-closes d m = ⊎_elim
    (λ none. inl (λ s z. none s (met s z)))
    (λ r. inr (
      r.0,
      closed-same_set d (InZone d r.0) (InZone d m) r.0
          (λ s z. let q = r.1.meeting s z in limits-zone d m s q.zone.size q.each) (λ s z. r.1.zone s (met s z))
          (shortest-closed d r.0 r.1.shortest),
    ))
    (limits-close d (limits d m) free (free-shortest d) (limits-in d m))
  where
    met : (s : State) → InZone d m s → Meeting d free (limits d m) s
    met s z = record { zone = free-all d s z.size; each = zone-limits d m s z }
