-- A pass keeps the zone, and after all passes the matrix is closed.
-- Index: passed-zone, zone-passed, through-shortest, pass-more, pass-none, pass-all, pass-within, pass-step.
use Rattle.std.proofs.Common.{◌≡◌, ◌≢◌, ◌⊎◌, inl, inr, ⊎_elim, ◌<◌, ◌≤◌, ◌+◌, ◌*◌, ◌^◌, ℕ, zero, suc, ℤ, pos, ◌+ℤ◌, ◌-ℤ◌, ◌≤ℤ◌, List, Option, Some, None, get_or, add-one, refl, sym, ap, subst, ◌∙◌, arith}
use Rattle.std.proofs.lemmas.Int.{ints, clamps}
use Rattle.std.proofs.lemmas.Bool.{cases_lt}
use Rattle.std.proofs.Math.Nat.{pow-suc, pow-le-pow_right}
use Rattle.prog_theory.specs.States.{State, coordinate}
use Rattle.zone_theory.specs.Bounds.{Bound, Keeps, IsAtMost, least, plus}
use Rattle.zone_theory.specs.Matrices.{Matrix, InZone, entry, difference}
use Rattle.zone_theory.specs.Shortest.{IsShortest}
use Rattle.zone_theory.specs.Closed.{IsClosed}
use Rattle.zone_theory.proofs.Bounds.{IsAtMost-more, least-cases, least-left, least-right, plus-parts, plus-both, Keeps-at_most, Keeps-from}
use Rattle.zone_theory.proofs.Entries.{same_or_apart, entry-apart, entry-same, entry-zero, zero-entry, InZone-entry, InZone-from}
use Rattle.zone_theory.proofs.Closing.{shortest-closed, closed-same_set}
use Rattle.zone_theory.proofs.Normal.{InZone-same}
use Rattle.zone_tables.specs.Tables.{matrix_of, apart, table_of, IsTable}
use Rattle.zone_tables.specs.Sizes.{IsBetween, IsWithin, AreWithin}
use Rattle.zone_tables.specs.Passes.{passed, Through, IsPassed, IsClosing}
use Rattle.zone_tables.proofs.Lists.{table-is, table-pair, each-cell, matrix-pair}
use Rattle.zone_tables.proofs.Sizes.{plus-within, within-more, entry-within}

-- a way over k of at most the bound
record Over (m : Matrix) (k i j : ℕ) (c : ℤ) : Type 0 where
  x : ℤ
  y : ℤ
  before : IsAtMost (entry m i k) x
  after : IsAtMost (entry m k j) y
  sum : (x +ℤ y) ≤ℤ c

plus-over : (m : Matrix) (k i j : ℕ) (c : ℤ) → IsAtMost (plus (entry m i k) (entry m k j)) c → Over m k i j c
plus-over m k i j c h = let p = plus-parts (entry m i k) (entry m k j) c h in
    record { x = p.0; y = p.1; before = p.2; after = p.3; sum = p.4 }

passed-cases : (m : Matrix) (k i j : ℕ) (c : ℤ) → IsAtMost (entry (passed m k) i j) c
    → IsAtMost (entry m i j) c ⊎ Over m k i j c
passed-cases m k i j c h = ⊎_elim
    (λ e. inl (subst (λ x. IsAtMost (entry m i x) c) e (zero-entry m i c
    (entry-zero (passed m k) i c (subst (λ x. IsAtMost (entry (passed m k) i x) c) (sym e) h)))))
    (λ ne. ⊎_elim (λ l. inl l) (λ o. inr (plus-over m k i j c o))
    (least-cases (entry m i j) (plus (entry m i k) (entry m k j)) c
    (subst (λ b. IsAtMost b c) (entry-apart (passed m k) i j ne) h)))
    (same_or_apart i j)

passed-old : (m : Matrix) (k i j : ℕ) (c : ℤ) → IsAtMost (entry m i j) c → IsAtMost (entry (passed m k) i j) c
passed-old m k i j c h = ⊎_elim
    (λ e. subst (λ x. IsAtMost (entry (passed m k) i x) c) e (zero-entry (passed m k) i c
    (entry-zero m i c (subst (λ x. IsAtMost (entry m i x) c) (sym e) h))))
    (λ ne. subst (λ b. IsAtMost b c) (sym (entry-apart (passed m k) i j ne))
    (least-left (entry m i j) (plus (entry m i k) (entry m k j)) c h))
    (same_or_apart i j)

module _ (d : ℕ) (m : Matrix) (k : ℕ) (hk : k ≤ d) where
  -- two bounds of a zone with a state
  back : (s : State) → InZone d m s → (i j : ℕ) → i ≤ d → j ≤ d → (a b : ℤ) → IsAtMost (entry m i j) a
      → IsAtMost (entry m j i) b → pos 0 ≤ℤ (a +ℤ b)
  back s z i j hi hj a b ha hb =
      let p : difference s i j ≤ℤ a = InZone-entry d m s z i j hi hj a ha in
      let q : difference s j i ≤ℤ b = InZone-entry d m s z j i hj hi b hb in
      sum_back (coordinate s i) (coordinate s j) a b p q
    where
      sum_back : (x y a b : ℤ) → (x -ℤ y) ≤ℤ a → (y -ℤ x) ≤ℤ b → pos 0 ≤ℤ (a +ℤ b)
      sum_back x y a b p q = omega (arith, ints)

  passed-over : (s : State) → InZone d m s → (i j : ℕ) → i ≤ d → j ≤ d → (a b : ℤ) → IsAtMost (entry m i k) a
      → IsAtMost (entry m k j) b → (c : ℤ) → (a +ℤ b) ≤ℤ c → IsAtMost (entry (passed m k) i j) c
  passed-over s z i j hi hj a b ha hb c l = ⊎_elim
      (λ e. subst (λ x. IsAtMost (entry (passed m k) i x) c) e (zero-entry (passed m k) i c
      (not_below a b c l (back s z i k hi hk a b ha (subst (λ x. IsAtMost (entry m k x) b) (sym e) hb)))))
      (λ ne. subst (λ x. IsAtMost x c) (sym (entry-apart (passed m k) i j ne))
      (least-right (entry m i j) (plus (entry m i k) (entry m k j)) c
      (plus-both (entry m i k) (entry m k j) a b c ha hb l)))
      (same_or_apart i j)
    where
      not_below : (a b c : ℤ) → (a +ℤ b) ≤ℤ c → pos 0 ≤ℤ (a +ℤ b) → pos 0 ≤ℤ c
      not_below a b c l h = omega (arith, ints)

  pub passed-zone : (s : State) → InZone d m s → InZone d (passed m k) s
  passed-zone s z = record {
    size = z.size;
    bounds = InZone-from d (passed m k) s (λ i j hi hj a h. ⊎_elim
        (λ l. InZone-entry d m s z i j hi hj a l)
        (λ o. two (coordinate s i) (coordinate s k) (coordinate s j) o.x o.y a
        (InZone-entry d m s z i k hi hk o.x o.before) (InZone-entry d m s z k j hk hj o.y o.after) o.sum)
        (passed-cases m k i j a h));
  }
    where
      two : (x y z a b c : ℤ) → (x -ℤ y) ≤ℤ a → (y -ℤ z) ≤ℤ b → (a +ℤ b) ≤ℤ c → (x -ℤ z) ≤ℤ c
      two x y z a b c p q l = omega (arith, ints)

  pub zone-passed : (s : State) → InZone d (passed m k) s → InZone d m s
  zone-passed s z = record {
    size = z.size;
    bounds = InZone-from d m s (λ i j hi hj a h. InZone-entry d (passed m k) s z i j hi hj a (passed-old m k i j a h));
  }

  -- at the coordinate itself nothing is lowered
  before_k : (i : ℕ) → i ≤ d → (a : ℤ) → IsAtMost (entry (passed m k) i k) a → IsAtMost (entry m i k) a
  before_k i hi a h = ⊎_elim (λ l. l)
      (λ o. IsAtMost-more (entry m i k) o.x a o.before (drop_end o.x o.y a (entry-zero m k o.y o.after) o.sum))
      (passed-cases m k i k a h)
    where
      drop_end : (x y a : ℤ) → pos 0 ≤ℤ y → (x +ℤ y) ≤ℤ a → x ≤ℤ a
      drop_end x y a h l = omega (arith, ints)

  after_k : (j : ℕ) → j ≤ d → (b : ℤ) → IsAtMost (entry (passed m k) k j) b → IsAtMost (entry m k j) b
  after_k j hj b h = ⊎_elim (λ l. l)
      (λ o. IsAtMost-more (entry m k j) o.y b o.after (drop_start o.x o.y b (entry-zero m k o.x o.before) o.sum))
      (passed-cases m k k j b h)
    where
      drop_start : (x y a : ℤ) → pos 0 ≤ℤ x → (x +ℤ y) ≤ℤ a → y ≤ℤ a
      drop_start x y a h l = omega (arith, ints)

  module _ (s : State) (z : InZone d m s) (old : Through d m k) where
    at_new : (i j : ℕ) → i ≤ d → j ≤ d → (a b : ℤ) → IsAtMost (entry (passed m k) i k) a
        → IsAtMost (entry (passed m k) k j) b → IsAtMost (entry (passed m k) i j) (a +ℤ b)
    at_new i j hi hj a b ha hb = passed-over s z i j hi hj a b (before_k i hi a ha) (after_k j hj b hb) (a +ℤ b)
        (omega (arith, ints))

    at_old : (p i j : ℕ) → p < k → p ≤ d → i ≤ d → j ≤ d → (a b : ℤ)
        → IsAtMost (entry m i p) a ⊎ Over m k i p a → IsAtMost (entry m p j) b ⊎ Over m k p j b
        → IsAtMost (entry (passed m k) i j) (a +ℤ b)
    at_old p i j l hp hi hj a b (inl ha) (inl hb) = passed-old m k i j (a +ℤ b) (old p i j l hp hi hj a b ha hb)
    at_old p i j l hp hi hj a b (inl ha) (inr o) =
        passed-over s z i j hi hj (a +ℤ o.x) o.y (old p i k l hp hi hk a o.x ha o.before) o.after (a +ℤ b)
        (right a o.x o.y b o.sum)
      where
        right : (a x y b : ℤ) → (x +ℤ y) ≤ℤ b → ((a +ℤ x) +ℤ y) ≤ℤ (a +ℤ b)
        right a x y b h = omega (arith, ints)
    at_old p i j l hp hi hj a b (inr o) (inl hb) =
        passed-over s z i j hi hj o.x (o.y +ℤ b) o.before (old p k j l hp hk hj o.y b o.after hb) (a +ℤ b)
        (left o.x o.y a b o.sum)
      where
        left : (x y a b : ℤ) → (x +ℤ y) ≤ℤ a → (x +ℤ (y +ℤ b)) ≤ℤ (a +ℤ b)
        left x y a b h = omega (arith, ints)
    at_old p i j l hp hi hj a b (inr o) (inr q) =
        passed-over s z i j hi hj o.x q.y o.before q.after (a +ℤ b)
        (both o.x o.y q.x q.y a b o.sum q.sum (back s z k p hk hp o.y q.x o.after q.before))
      where
        both : (x y u v a b : ℤ) → (x +ℤ y) ≤ℤ a → (u +ℤ v) ≤ℤ b → pos 0 ≤ℤ (y +ℤ u) → (x +ℤ v) ≤ℤ (a +ℤ b)
        both x y u v a b h g n = omega (arith, ints)

    pub passed-through : Through d (passed m k) (suc k)
    passed-through p i j l hp hi hj a b ha hb = ⊎_elim
        (λ less. at_old p i j less hp hi hj a b (passed-cases m k i p a ha) (passed-cases m k p j b hb))
        (λ le. let e : k ≡ p = omega (arith, le, l) in
        at_new i j hi hj a b (subst (λ x. IsAtMost (entry (passed m k) i x) a) (sym e) ha)
        (subst (λ x. IsAtMost (entry (passed m k) x j) b) (sym e) hb))
        (cases_lt p k)

pub through-shortest : (d : ℕ) (m : Matrix) → Through d m (suc d) → IsShortest d m
through-shortest d m t = record {
  triangle = λ i k j hi hk hj a b ha hb. t k i j (omega (arith, hk)) hk hi hj a b ha
      hb;
}

-- matrices with equal bounds
Through-same : (d : ℕ) (m u : Matrix) (k : ℕ) → ((i j : ℕ) → i ≤ d → j ≤ d → i ≢ j → m i j ≡ u i j) → Through d m k
    → Through d u k
Through-same d m u k same t p i j l hp hi hj a b ha hb = subst (λ x. IsAtMost x (a +ℤ b)) (at i j hi hj)
    (t p i j l hp hi hj a b (subst (λ x. IsAtMost x a) (sym (at i p hi hp)) ha)
    (subst (λ x. IsAtMost x b) (sym (at p j hp hj)) hb))
  where
    at : (i j : ℕ) → i ≤ d → j ≤ d → entry m i j ≡ entry u i j
    at i j hi hj = ⊎_elim
        (λ e. subst (λ x. entry m i x ≡ entry u i x) e (entry-same m i ∙ sym (entry-same u i)))
        (λ ne. entry-apart m i j ne ∙ same i j hi hj ne ∙ sym (entry-apart u i j ne))
        (same_or_apart i j)

least-within : (a : ℕ) (x y : Bound) → IsWithin a x → IsWithin a y → IsWithin a (least x y)
least-within a None y h k = k
least-within a (Some x) None h k = h
least-within a (Some x) (Some y) h k =
    let xl = h.low in let xh = h.high in let yl = k.low in let yh = k.high in
    record { low = omega (arith, ints, clamps); high = omega (arith, ints, clamps) }

double : (k : ℕ) → 2 ^ (40 + k) + 2 ^ (40 + k) ≡ 2 ^ (40 + suc k)
double k = let e : 40 + suc k ≡ suc (40 + k) = omega arith in omega (arith, pow-suc 2 (40 + k), ap (λ x. 2 ^ x) e)

module _ (d : ℕ) (old : List Bound) (k : ℕ) (hk : k ≤ d) (bounds : List Bound) (s : State)
    (z : InZone d (matrix_of (suc d) old) s) where
  same_zone : (i j : ℕ) → i ≤ d → j ≤ d → i ≢ j
      → passed (matrix_of (suc d) bounds) k i j ≡ matrix_of (suc d)
      (table_of (suc d) (passed (matrix_of (suc d) bounds) k)) i j
  same_zone i j hi hj ne = sym (table-pair (suc d) (passed (matrix_of (suc d) bounds) k) i j (omega (arith, hi))
      (omega (arith, hj)) ne)

  pub pass-more : IsPassed d old k bounds
      → IsPassed d old (suc k) (table_of (suc d) (passed (matrix_of (suc d) bounds) k))
  pass-more h = let m = matrix_of (suc d) bounds in let new = table_of (suc d) (passed m k) in record {
    table = table-is (suc d) (passed m k);
    through = Through-same d (passed m k) (matrix_of (suc d) new) (suc k) same_zone
        (passed-through d m k hk s (h.from s z) h.through);
    from = λ t y. InZone-same d (passed m k) (matrix_of (suc d) new) same_zone t (passed-zone d m k hk t (h.from t y));
    to = λ t y. h.to t (zone-passed d m k hk t
        (InZone-same d (matrix_of (suc d) new) (passed m k) (λ i j hi hj ne. sym (same_zone i j hi hj ne)) t y));
    within = each-cell (suc d) new (table-is (suc d) (passed m k)) (IsWithin (2 ^ (40 + suc k))) tt
        (λ i j hi hj ne. subst (IsWithin (2 ^ (40 + suc k)))
        (sym (table-pair (suc d) (passed m k) i j hi hj ne))
        (subst (λ x. IsWithin x (passed m k i j)) (double k)
        (least-within (2 ^ (40 + k) + 2 ^ (40 + k)) (entry m i j) (plus (entry m i k) (entry m k j))
        (within-more (2 ^ (40 + k)) (2 ^ (40 + k) + 2 ^ (40 + k)) (entry m i j) (omega arith)
        (entry-within (2 ^ (40 + k)) (suc d) bounds h.within i j hi hj))
        (plus-within (2 ^ (40 + k)) (2 ^ (40 + k)) (entry m i k) (entry m k j)
        (entry-within (2 ^ (40 + k)) (suc d) bounds h.within i k hi (omega (arith, hk)))
        (entry-within (2 ^ (40 + k)) (suc d) bounds h.within k j (omega (arith, hk)) hj)))));
  }

pub pass-none : (d : ℕ) (old : List Bound) → IsTable (suc d) old → AreWithin (2 ^ 40) old → IsPassed d old 0 old
pass-none d old t w = record {
  table = t;
  through = λ p i j l. absurd (omega (arith, l));
  from = λ s z. z;
  to = λ s z. z;
  within = w;
}

pub pass-all : (d : ℕ) (old bounds : List Bound) (s : State) → InZone d (matrix_of (suc d) old) s
    → IsPassed d old (suc d) bounds → IsClosing d old bounds
pass-all d old bounds s z h = let m = matrix_of (suc d) bounds in record {
  table = h.table;
  closed = closed-same_set d (InZone d m) (InZone d (matrix_of (suc d) old)) m h.to h.from
      (shortest-closed d m (through-shortest d m h.through));
}

-- 2 to a power of at most 104
power : (k : ℕ) → k ≤ 64 → 2 ^ (40 + k) ≤ 2 ^ 120
power k l = pow-le-pow_right {n = 2} (omega arith) {i = 40 + k} {j = 120} (omega (arith, l))

pub pass-within : (d : ℕ) (old bounds : List Bound) (k : ℕ) → k ≤ 64 → IsPassed d old k bounds
    → AreWithin (2 ^ 120) bounds
pass-within d old bounds k l h i =
    within-more (2 ^ (40 + k)) (2 ^ 120) (get_or bounds i None) (power k l) (h.within i)

-- the step of the loop
pub pass-step : (d n k : ℕ) (old bounds read new : List Bound) (s : State) → InZone d (matrix_of (suc d) old) s
    → n ≡ suc d → k ≤ d → read ≡ bounds → new ≡ table_of n (passed (matrix_of n read) k) → IsPassed d old k bounds
    → IsPassed d old (k + 1) new
pass-step d n k old bounds read new s z e hk re is h = subst (IsPassed d old (k + 1)) (sym same)
    (subst (λ j. IsPassed d old j (table_of (suc d) (passed (matrix_of (suc d) bounds) k))) (sym (add-one k))
    (pass-more d old k hk bounds s z h))
  where
    same : new ≡ table_of (suc d) (passed (matrix_of (suc d) bounds) k)
    same = is ∙ ap (λ m. table_of m (passed (matrix_of m read) k)) e
        ∙ ap (λ bs. table_of (suc d) (passed (matrix_of (suc d) bs) k)) re
