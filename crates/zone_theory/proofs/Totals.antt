-- Sums of the first values of a function.
use Rattle.std.proofs.Common.{◌≡◌, ◌⊎◌, inl, inr, ⊎_elim, ◌≤◌, ◌<◌, ℕ, zero, suc, ◌*◌, refl, sym, subst, arith}
use Rattle.std.proofs.lemmas.Bool.{cases_lt}
use Rattle.zone_theory.proofs.Entries.{same_or_apart}
use Rattle.zone_theory.specs.Width.{total}

pub total-le : (f g : ℕ → ℕ) (n : ℕ) → ((k : ℕ) → k < n → f k ≤ g k) → total f n ≤ total g n
total-le f g zero h = omega arith
total-le f g (suc n) h = let p : total f n ≤ total g n =
    total-le f g n (λ k l. h k (omega arith)) in let q : f n ≤ g n = h n (omega arith) in omega arith

-- a sum of no greater values is smaller, or the values are the same
pub total-falls : (f g : ℕ → ℕ) (n : ℕ) → ((k : ℕ) → k < n → f k ≤ g k)
    → (total f n < total g n) ⊎ ((k : ℕ) → k < n → f k ≡ g k)
total-falls f g zero h = inr (λ k l. absurd (omega arith))
total-falls f g (suc n) h = go (total-falls f g n (λ k l. h k (omega arith))) (cases_lt (f n) (g n))
  where
    last : f n ≤ g n
    last = h n (omega arith)

    front : total f n ≤ total g n
    front = total-le f g n (λ k l. h k (omega arith))

    go : (total f n < total g n) ⊎ ((k : ℕ) → k < n → f k ≡ g k) → (f n < g n) ⊎ (g n ≤ f n)
        → (total f (suc n) < total g (suc n)) ⊎ ((k : ℕ) → k < suc n → f k ≡ g k)
    go (inl p) q = inl (omega (arith, last))
    go (inr p) (inl q) = inl (omega (arith, front))
    go (inr p) (inr q) =
        inr (λ k l. ⊎_elim (λ e. subst (λ x. f x ≡ g x) (sym e) (omega (arith, last))) (λ n'. p k (omega (arith, n')))
        (same_or_apart k n))

pub total-bound : (f : ℕ → ℕ) (b n : ℕ) → ((k : ℕ) → k < n → f k ≤ b) → total f n ≤ n * b
total-bound f b zero h = omega arith
total-bound f b (suc n) h = let p : total f n ≤ n * b =
    total-bound f b n (λ k l. h k (omega arith)) in let q : f n ≤ b = h n (omega arith) in omega arith

pub total-one : (n : ℕ) → total (λ k. 1) n ≡ n
total-one zero = refl
total-one (suc n) = let p : total (λ k. 1) n ≡ n = total-one n in omega arith

-- values of at most 1, one of them 0
pub total-gap : (f : ℕ → ℕ) (n i : ℕ) → ((k : ℕ) → k < suc n → f k ≤ 1) → i < suc n → f i ≡ 0 → total f (suc n) ≤ n
total-gap f n i h l e = ⊎_elim
    (λ p. let q : total (λ k. 1) (suc n) ≡ suc n = total-one (suc n) in omega (arith, p))
    (λ p. absurd (clash (p i l)))
    (total-falls f (λ k. 1) (suc n) h)
  where
    clash : f i ≡ 1 → ⊥
    clash p = omega arith
