-- Entries of a matrix, at equal and at different coordinates.
use Rattle.std.proofs.Common.{◌≡◌, ◌≢◌, ◌⊎◌, inl, inr, ⊎_elim, ◌≤◌, ℕ, ℤ, pos, ◌+ℤ◌, ◌≤ℤ◌, Bool, true, false, cond, eqb, Some, refl, sym, ap, subst, arith}
use Rattle.std.proofs.lemmas.Bool.{eqb-true}
use Rattle.std.proofs.lemmas.Bool.Decides.{nat_tests}
use Rattle.std.proofs.lemmas.Int.{ints}
use Rattle.prog_theory.specs.States.{State}
use Rattle.zone_theory.specs.Bounds.{Keeps, IsAtMost}
use Rattle.zone_theory.specs.Matrices.{Matrix, InZone, entry, difference}
use Rattle.zone_theory.specs.Shortest.{IsShortest}
use Rattle.zone_theory.proofs.Bounds.{Keeps-at_most, Keeps-from, IsAtMost-more}

pub eqb_same : (i : ℕ) → eqb i i ≡ true
eqb_same i = grind (arith, nat_tests)

pub eqb_apart : (i j : ℕ) → i ≢ j → eqb i j ≡ false
eqb_apart i j h = grind (arith, nat_tests)

pub same_or_apart : (i j : ℕ) → (i ≡ j) ⊎ (i ≢ j)
same_or_apart i j = go (eqb i j) refl
  where
    go : (b : Bool) → eqb i j ≡ b → (i ≡ j) ⊎ (i ≢ j)
    go true e = inl (eqb-true i j e)
    go false e = inr (λ q. grind (arith, nat_tests))

pub entry-same : (m : Matrix) (i : ℕ) → entry m i i ≡ Some (pos 0)
entry-same m i = ap (λ b. cond b (Some (pos 0)) (m i i)) (eqb_same i)

pub entry-apart : (m : Matrix) (i j : ℕ) → i ≢ j → entry m i j ≡ m i j
entry-apart m i j h = ap (λ b. cond b (Some (pos 0)) (m i j)) (eqb_apart i j h)

-- an entry at equal coordinates is 0
pub entry-zero : (m : Matrix) (i : ℕ) (a : ℤ) → IsAtMost (entry m i i) a → pos 0 ≤ℤ a
entry-zero m i a h = subst (λ b. IsAtMost b a) (entry-same m i) h

pub zero-entry : (m : Matrix) (i : ℕ) (a : ℤ) → pos 0 ≤ℤ a → IsAtMost (entry m i i) a
zero-entry m i a h = subst (λ b. IsAtMost b a) (sym (entry-same m i)) h

-- a matrix is shortest where no two bounds at different coordinates give a smaller one together
pub apart-shortest : (d : ℕ) (m : Matrix)
    → ((i k j : ℕ) → i ≤ d → k ≤ d → j ≤ d → i ≢ k → k ≢ j → (a b : ℤ) → IsAtMost (entry m i k) a
    → IsAtMost (entry m k j) b → IsAtMost (entry m i j) (a +ℤ b))
    → IsShortest d m
apart-shortest d m apart = record { triangle = go }
  where
    go : (i k j : ℕ) → i ≤ d → k ≤ d → j ≤ d → (a b : ℤ) → IsAtMost (entry m i k) a → IsAtMost (entry m k j) b
        → IsAtMost (entry m i j) (a +ℤ b)
    go i k j hi hk hj a b ha hb = ⊎_elim
        (λ e. let p : pos 0 ≤ℤ a = entry-zero m k a (subst (λ x. IsAtMost (entry m x k) a) e ha) in subst
        (λ x. IsAtMost (entry m x j) (a +ℤ b)) (sym e)
        (IsAtMost-more (entry m k j) b (a +ℤ b) hb (omega (arith, ints))))
        (λ ik. ⊎_elim
        (λ e. let p : pos 0 ≤ℤ b = entry-zero m k b (subst (λ y. IsAtMost (entry m k y) b) (sym e) hb) in subst
        (λ y. IsAtMost (entry m i y) (a +ℤ b)) e (IsAtMost-more (entry m i k) a (a +ℤ b) ha (omega (arith, ints))))
        (λ kj. apart i k j hi hk hj ik kj a b ha hb)
        (same_or_apart k j))
        (same_or_apart i k)

-- each entry bounds the difference in a state of the zone
pub InZone-entry : (d : ℕ) (m : Matrix) (s : State) → InZone d m s → (i j : ℕ) → i ≤ d → j ≤ d → (a : ℤ)
    → IsAtMost (entry m i j) a → difference s i j ≤ℤ a
InZone-entry d m s z i j hi hj a h = ⊎_elim same apart (same_or_apart i j)
  where
    same : i ≡ j → difference s i j ≤ℤ a
    same e = let h' : IsAtMost (entry m i i) a = subst (λ k. IsAtMost (entry m i k) a)
        (sym e) h in let p : pos 0 ≤ℤ a = entry-zero m i a h' in subst (λ k. difference s i k ≤ℤ a) e
        (omega (arith, ints))

    apart : i ≢ j → difference s i j ≤ℤ a
    apart n = Keeps-at_most (m i j) (difference s i j) a (z.bounds i j hi hj n)
        (subst (λ b. IsAtMost b a) (entry-apart m i j n) h)

pub InZone-from : (d : ℕ) (m : Matrix) (s : State) → ((i j : ℕ) → i ≤ d → j ≤ d → (a : ℤ) → IsAtMost (entry m i j) a
    → difference s i j ≤ℤ a) → (i j : ℕ) → i ≤ d → j ≤ d → i ≢ j → Keeps (m i j) (difference s i j)
InZone-from d m s h i j hi hj n = Keeps-from (m i j) (difference s i j)
    (λ a k. h i j hi hj a (subst (λ b. IsAtMost b a) (sym (entry-apart m i j n)) k))
