-- The column and the row that a new bound is added along don't change, so the matrix can be written in place.
use Rattle.std.proofs.Common.{◌≡◌, ◌≢◌, ⊎_elim, ◌≤◌, ℕ, ℤ, pos, ◌+ℤ◌, ◌≤ℤ◌, sym, subst, arith}
use Rattle.std.proofs.lemmas.Int.{ints}
use Rattle.zone_theory.specs.Bounds.{IsAtMost}
use Rattle.zone_theory.specs.Matrices.{Matrix, entry}
use Rattle.zone_theory.specs.Shortest.{IsShortest}
use Rattle.zone_theory.specs.Adding.{added, Admits}
use Rattle.zone_theory.proofs.Bounds.{IsAtMost-more}
use Rattle.zone_theory.proofs.Entries.{entry-apart}
use Rattle.zone_theory.proofs.Closing.{bounds-same}
use Rattle.zone_theory.proofs.Adding.{Via, added-cases, added-old}

module _ (d : ℕ) (m : Matrix) (tight : IsShortest d m) (i j : ℕ) (hi : i ≤ d) (hj : j ≤ d) (c : ℤ)
    (admits : Admits m i j c) where
  -- where each way over the new bound is no shorter, the bound of k and l stays
  same : (k l : ℕ) → k ≢ l → ((a : ℤ) → Via m i j c k l a → IsAtMost (entry m k l) a) → added m i j c k l ≡ m k l
  same k l n h = bounds-same (added m i j c k l) (m k l)
      (λ a q. subst (λ b. IsAtMost b a) (entry-apart m k l n)
      (⊎_elim (λ p. p) (λ v. h a v) (added-cases d m tight i j hi hj c admits k l a
      (subst (λ b. IsAtMost b a) (sym (entry-apart (added m i j c) k l n)) q))))
      (λ a q. subst (λ b. IsAtMost b a) (entry-apart (added m i j c) k l n)
      (added-old d m tight i j hi hj c admits k l a (subst (λ b. IsAtMost b a) (sym (entry-apart m k l n)) q)))

  less : (x y a : ℤ) → ((x +ℤ c) +ℤ y) ≤ℤ a → pos 0 ≤ℤ (c +ℤ y) → x ≤ℤ a
  less x y a p q = omega (arith, ints)

  less_back : (x y a : ℤ) → ((x +ℤ c) +ℤ y) ≤ℤ a → pos 0 ≤ℤ (c +ℤ x) → y ≤ℤ a
  less_back x y a p q = omega (arith, ints)

  pub added-column : (k : ℕ) → k ≢ i → added m i j c k i ≡ m k i
  added-column k n =
      same k i n (λ a v. IsAtMost-more (entry m k i) v.x a v.before (less v.x v.y a v.sum (admits v.y v.after)))

  pub added-row : (l : ℕ) → j ≢ l → added m i j c j l ≡ m j l
  added-row l n =
      same j l n (λ a v. IsAtMost-more (entry m j l) v.y a v.after (less_back v.x v.y a v.sum (admits v.x v.before)))
