-- Kept bounds: they are determined, their zone has what it must have, and there are fewer of them.
-- Index: kept-unique, keep, keep-stays, kept-exists, kept-old, kept-set, kept-fewer, numbers-bound, width-bound,
-- widened-falls, widened-exists.
use Rattle.std.proofs.Common.{◌≡◌, ◌≢◌, ◌⊎◌, inl, inr, ⊎_elim, ◌≤◌, ◌<◌, ℕ, suc, ◌+◌, ℤ, cond, length, Option, Some, None, refl, sym, ap, subst, ◌∙◌, arith}
use Rattle.prog_theory.specs.States.{State}
use Rattle.zone_theory.specs.Bounds.{Bound, Keeps, IsAtMost}
use Rattle.zone_theory.specs.Matrices.{Matrix, InZone, difference}
use Rattle.zone_theory.specs.Closed.{IsGreatest, IsClosed}
use Rattle.zone_theory.specs.Widening.{Holds, Stays, IsKept, basis, IsWidened}
use Rattle.zone_theory.specs.Width.{total, weight, cell, numbers, pairs, width}
use Rattle.zone_theory.proofs.Bounds.{IsAtMost-decided}
use Rattle.zone_theory.proofs.Entries.{same_or_apart, eqb_same, eqb_apart}
use Rattle.zone_theory.proofs.Closing.{IsGreatest-least, IsGreatest-bounds}
use Rattle.zone_theory.proofs.Totals.{total-le, total-falls, total-bound, total-gap}
use Rattle.zone_theory.proofs.MatrixCloses.{matrix-closes}

-- the kept bounds are determined
stays-same : (S : State → Type 0) (i j : ℕ) (old x y : Bound) → Stays S i j old x → Stays S i j old y → x ≡ y
stays-same S i j old x y (inl p) (inl q) = p.1 ∙ sym q.1
stays-same S i j old x y (inl p) (inr q) = absurd (q.0 p.0)
stays-same S i j old x y (inr p) (inl q) = absurd (p.0 q.0)
stays-same S i j old x y (inr p) (inr q) = p.1 ∙ sym q.1

pub kept-unique : (d : ℕ) (S : State → Type 0) (old x y : Matrix) → IsKept d S old x → IsKept d S old y → (i j : ℕ)
    → i ≤ d → j ≤ d → i ≢ j → x i j ≡ y i j
kept-unique d S old x y p q i j hi hj n = stays-same S i j (old i j) (x i j) (y i j) (p.stays i j hi hj n)
    (q.stays i j hi hj n)

-- the bound that stays, by the greatest difference over the set
pub keep : Bound → Bound → Bound
keep None n = None
keep (Some c) n = ⊎_elim (λ h. Some c) (λ h. None) (IsAtMost-decided n c)

pub keep-stays : (S : State → Type 0) (i j : ℕ) (old n : Bound) → IsGreatest S i j n → Stays S i j old (keep old n)
unfolding keep
keep-stays S i j None n g = inl (λ s hs. tt, refl)
keep-stays S i j (Some c) n g = go (IsAtMost-decided n c)
  where
    go : (r : IsAtMost n c ⊎ (IsAtMost n c → ⊥)) → Stays S i j (Some c) (⊎_elim (λ h. Some c) (λ h. None) r)
    go (inl h) = inl (λ s hs. IsGreatest-bounds S i j n c g h s hs, refl)
    go (inr h) = inr (λ k. h (IsGreatest-least S i j n c g k), refl)

pub kept-exists : (d : ℕ) (S : State → Type 0) (old n : Matrix) → IsClosed d S n
    → IsKept d S old (λ i j. keep (old i j) (n i j))
kept-exists d S old n c =
    record { stays = λ i j hi hj ne. keep-stays S i j (old i j) (n i j) (c.greatest i j hi hj ne) }

stays-old : (S : State → Type 0) (i j : ℕ) (old new : Bound) (z : ℤ) → Stays S i j old new → Keeps old z → Keeps new z
stays-old S i j old new z (inl p) h = subst (λ b. Keeps b z) (sym p.1) h
stays-old S i j old new z (inr p) h = subst (λ b. Keeps b z) (sym p.1) tt

stays-set : (S : State → Type 0) (i j : ℕ) (old new : Bound) (s : State) → Stays S i j old new → S s
    → Keeps new (difference s i j)
stays-set S i j old new s (inl p) h = subst (λ b. Keeps b (difference s i j)) (sym p.1) (p.0 s h)
stays-set S i j old new s (inr p) h = subst (λ b. Keeps b (difference s i j)) (sym p.1) tt

module _ (d : ℕ) (S : State → Type 0) (old new : Matrix) (kept : IsKept d S old new) where
  -- the zone of the kept bounds has the old zone, and the set
  pub kept-old : (s : State) → InZone d old s → InZone d new s
  kept-old s z =
      record {
        size = z.size;
        bounds = λ i j hi hj n. stays-old S i j (old i j) (new i j) (difference s i j)
            (kept.stays i j hi hj n) (z.bounds i j hi hj n);
      }

  pub kept-set : ((s : State) → S s → length s ≡ d) → (s : State) → S s → InZone d new s
  kept-set size s hs = record {
    size = size s hs;
    bounds =
        λ i j hi hj n. stays-set S i j (old i j) (new i j) s (kept.stays i j hi hj n) hs;
  }

  cell-le : (i j : ℕ) → i ≤ d → j ≤ d → cell new i j ≤ cell old i j
  cell-le i j hi hj = ⊎_elim
      (λ e. subst (λ y. cell new i y ≤ cell old i y) e
      (subst (λ x. x ≤ cell old i i) (sym (ap (λ b. cond b 0 (weight (new i i))) (eqb_same i))) (omega arith)))
      (λ n. subst (λ x. x ≤ cell old i j) (sym (ap (λ b. cond b 0 (weight (new i j))) (eqb_apart i j n)))
      (subst (λ x. weight (new i j) ≤ x) (sym (ap (λ b. cond b 0 (weight (old i j))) (eqb_apart i j n)))
      (weight-le (kept.stays i j hi hj n))))
      (same_or_apart i j)
    where
      weight-le : Stays S i j (old i j) (new i j) → weight (new i j) ≤ weight (old i j)
      weight-le = ⊎_elim (λ p. subst (λ b. weight b ≤ weight (old i j)) (sym p.1) (omega arith))
          (λ p. subst (λ b. weight b ≤ weight (old i j)) (sym p.1) (omega arith))

  same_cell : (i j : ℕ) → i ≤ d → j ≤ d → i ≢ j → cell new i j ≡ cell old i j → Holds S i j (old i j)
  same_cell i j hi hj n e = ⊎_elim (λ p. p.0) (λ p. dropped (old i j) (sym (ap weight p.1) ∙ weights))
      (kept.stays i j hi hj n)
    where
      weights : weight (new i j) ≡ weight (old i j)
      weights = sym (ap (λ b. cond b 0 (weight (new i j))) (eqb_apart i j n)) ∙ e
          ∙ ap (λ b. cond b 0 (weight (old i j))) (eqb_apart i j n)

      dropped : (b : Bound) → 0 ≡ weight b → Holds S i j b
      dropped None q = λ s hs. tt
      dropped (Some c) q = absurd (omega arith)

  -- where the set isn't in the old zone, fewer bounds are kept
  pub kept-fewer : ((s : State) → S s → length s ≡ d) → (((s : State) → S s → InZone d old s) → ⊥)
      → numbers d new < numbers d old
  kept-fewer size out =
      ⊎_elim (λ l. l)
      (λ same. absurd
      (out (λ s hs. record {
        size = size s hs;
        bounds =
            λ i j hi hj n. same_cell i j hi hj n (row_same i hi (same i (omega arith)) j hj) s hs;
      })))
      (total-falls (λ i. total (cell new i) (suc d)) (λ i. total (cell old i) (suc d)) (suc d) rows_le)
    where
      rows_le : (i : ℕ) → i < suc d → total (cell new i) (suc d) ≤ total (cell old i) (suc d)
      rows_le i hi = total-le (cell new i) (cell old i) (suc d) (λ j hj. cell-le i j (omega arith) (omega arith))

      row_same : (i : ℕ) → i ≤ d → total (cell new i) (suc d) ≡ total (cell old i) (suc d) → (j : ℕ) → j ≤ d
          → cell new i j ≡ cell old i j
      row_same i hi e j hj = ⊎_elim (λ l. absurd (omega (arith, l))) (λ h. h j (omega arith))
          (total-falls (cell new i) (cell old i) (suc d) (λ k hk. cell-le i k hi (omega arith)))

-- a matrix has at most a number for each pair of different coordinates
pub numbers-bound : (d : ℕ) (m : Matrix) → numbers d m ≤ pairs d
numbers-bound d m = total-bound (λ i. total (cell m i) (suc d)) d (suc d)
    (λ i hi. total-gap (cell m i) d i (λ j hj. small i j) hi (ap (λ b. cond b 0 (weight (m i i))) (eqb_same i)))
  where
    weight-le : (b : Bound) → weight b ≤ 1
    weight-le None = omega arith
    weight-le (Some c) = omega arith

    small : (i j : ℕ) → cell m i j ≤ 1
    small i j = ⊎_elim
        (λ e. subst (λ y. cell m i y ≤ 1) e (subst (λ x. x ≤ 1)
        (sym (ap (λ b. cond b 0 (weight (m i i))) (eqb_same i))) (omega arith)))
        (λ n. subst (λ x. x ≤ 1) (sym (ap (λ b. cond b 0 (weight (m i j))) (eqb_apart i j n))) (weight-le (m i j)))
        (same_or_apart i j)

-- a value is no wider than the greatest width
pub width-bound : (d : ℕ) (kept : Option Matrix) → width d kept ≤ pairs d + 1
width-bound d None = omega arith
width-bound d (Some k) = let p : numbers d k ≤ pairs d = numbers-bound d k in omega arith

-- A widening by a set that isn't in the zone lowers the width. The zone of kept bounds, where there are some, is that
-- of the value.
pub widened-falls : (d : ℕ) (m : Matrix) (kept : Option Matrix) (S : State → Type 0) (u k : Matrix)
    → IsWidened d m kept S u k → ((s : State) → S s → length s ≡ d)
    → (((s : State) → S s → InZone d (basis m kept) s) → ⊥) → width d (Some k) < width d kept
widened-falls d m None S u k w size out = let p : numbers d k ≤ pairs d = numbers-bound d k in omega arith
widened-falls d m (Some old) S u k w size out = kept-fewer d S old k w.stays size out

-- a value can be widened by a set that has a closed matrix
pub widened-exists : (d : ℕ) (m : Matrix) (kept : Option Matrix) (S : State → Type 0) (n : Matrix) → IsClosed d S n
    → ((s : State) → S s → length s ≡ d) → (u : Matrix) × (k : Matrix) × IsWidened d m kept S u k
widened-exists d m kept S n c size = go (matrix-closes d k)
  where
    k : Matrix
    k i j = keep (basis m kept i j) (n i j)

    stays : IsKept d S (basis m kept) k
    stays = kept-exists d S (basis m kept) n c

    go : ((s : State) → InZone d k s → ⊥) ⊎ ((u : Matrix) × IsClosed d (InZone d k) u)
        → (u : Matrix) × (k : Matrix) × IsWidened d m kept S u k
    go = ⊎_elim (λ none. absurd (none c.some.0 (kept-set d S (basis m kept) k stays size c.some.0 c.some.1)))
        (λ r. (r.0, k, record { stays = stays; closed = r.1 }))
