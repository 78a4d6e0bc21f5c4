-- Sums of how many numbers stand in rows.
use Rattle.std.proofs.Common.{◌≡◌, ◌≤◌, ◌<◌, ◌+◌, ◌*◌, ◌==◌, ℕ, suc, Bool, true, false, cond, Option, Some, None, refl, sym, ap, ◌∙◌, add-one, arith}
use Rattle.zone_theory.specs.Bounds.{Bound}
use Rattle.zone_theory.specs.Matrices.{Matrix, entry}
use Rattle.zone_theory.specs.Width.{total, weight, cell}
use Rattle.zone_theory.proofs.Totals.{total-bound}
use Rattle.zone_theory.proofs.Entries.{eqb_same, eqb_apart, entry-apart}

pub total-more : (f : ℕ → ℕ) (k count more : ℕ) → count ≡ total f k → more ≡ f k → count + more ≡ total f (k + 1)
total-more f k count more is e = omega (arith, is, e, ap (total f) (add-one k))

weight-le : (b : Bound) → weight b ≤ 1
weight-le None = omega arith
weight-le (Some z) = omega arith

pub cell-le : (m : Matrix) (i j : ℕ) → cell m i j ≤ 1
cell-le m i j = elim (i == j) as (λ b. cond b 0 (weight (m i j)) ≤ 1) [ true ↦ omega arith | false ↦ weight-le (m i j) ]

pub row-le : (m : Matrix) (i n : ℕ) → total (cell m i) n ≤ n
row-le m i n = omega (arith, total-bound (cell m i) 1 n (λ k l. cell-le m i k))

pub rows-le : (m : Matrix) (n k : ℕ) → total (λ i. total (cell m i) n) k ≤ k * n
rows-le m n k = total-bound (λ i. total (cell m i) n) n k (λ i l. row-le m i n)

-- the weight of a bound that was read
pub cell-same : (m : Matrix) (i j : ℕ) → i ≡ j → 0 ≡ cell m i j
cell-same m i j e = sym (ap (λ k. cond (i == k) 0 (weight (m i k))) (sym e) ∙ ap (λ b. cond b 0 (weight (m i i)))
    (eqb_same i))

pub cell-none : (m : Matrix) (i j : ℕ) → (i ≡ j → ⊥) → None ≡ entry m i j → 0 ≡ cell m i j
cell-none m i j ne e = sym (ap (λ b. cond b 0 (weight (m i j))) (eqb_apart i j ne)
    ∙ ap weight (sym (e ∙ entry-apart m i j ne)))

pub cell-some : (m : Matrix) (i j : ℕ) (z : _) → (i ≡ j → ⊥) → Some z ≡ entry m i j → 1 ≡ cell m i j
cell-some m i j z ne e = sym (ap (λ b. cond b 0 (weight (m i j))) (eqb_apart i j ne)
    ∙ ap weight (sym (e ∙ entry-apart m i j ne)))
