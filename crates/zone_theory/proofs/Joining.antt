-- The join of two zones is the least zone that has both, and its matrix is closed.
use Rattle.std.proofs.Common.{◌≡◌, ◌⊎◌, inl, inr, ⊎_elim, ℕ, ℤ, ◌+ℤ◌, ◌≤ℤ◌, Some, None, sym, subst, ◌∙◌, arith}
use Rattle.std.specs.Int.{int_max}
use Rattle.std.proofs.lemmas.Int.{ints, clamps}
use Rattle.prog_theory.specs.States.{State}
use Rattle.zone_theory.specs.Bounds.{Bound, Keeps, IsAtMost, most}
use Rattle.zone_theory.specs.Matrices.{Matrix, InZone, entry, difference}
use Rattle.zone_theory.specs.Shortest.{IsShortest}
use Rattle.zone_theory.specs.Closed.{IsGreatest, IsClosed}
use Rattle.zone_theory.specs.Joining.{joined}
use Rattle.zone_theory.proofs.Bounds.{le_total, Keeps-at_most, Keeps-from, most-left, most-right, most-both}
use Rattle.zone_theory.proofs.Entries.{same_or_apart, entry-zero, zero-entry, entry-apart}
use Rattle.zone_theory.proofs.Including.{included}

most-swap : (x y : Bound) (z : ℤ) → Keeps y z → Keeps (most x y) z
most-swap x y z h = Keeps-from (most x y) z (λ c k. Keeps-at_most y z c h (most-right x y c k))

most-stay : (x y : Bound) (z : ℤ) → Keeps x z → Keeps (most x y) z
most-stay x y z h = Keeps-from (most x y) z (λ c k. Keeps-at_most x z c h (most-left x y c k))

-- the greatest difference over both sets
IsGreatest-most : (S U : State → Type 0) (i j : ℕ) (x y : Bound) → IsGreatest S i j x → IsGreatest U i j y
    → IsGreatest (λ s. S s ⊎ U s) i j (most x y)
IsGreatest-most S U i j None y g h = λ c. let r = g c in (r.0, inl r.1, r.2)
IsGreatest-most S U i j (Some a) None g h = λ c. let r = h c in (r.0, inr r.1, r.2)
IsGreatest-most S U i j (Some a) (Some b) g h = (
  λ s e. ⊎_elim (λ k. left (difference s i j) (g.0 s k)) (λ k. right (difference s i j) (h.0 s k)) e,
  ⊎_elim (λ l. (h.1.0, inr h.1.1, h.1.2 ∙ is_right l)) (λ l. (g.1.0, inl g.1.1, g.1.2 ∙ is_left l)) (le_total a b),
)
  where
    left : (z : ℤ) → z ≤ℤ a → z ≤ℤ int_max a b
    left z p = omega (arith, ints, clamps)

    right : (z : ℤ) → z ≤ℤ b → z ≤ℤ int_max a b
    right z p = omega (arith, ints, clamps)

    is_right : a ≤ℤ b → b ≡ int_max a b
    is_right l = omega (arith, ints, clamps)

    is_left : b ≤ℤ a → a ≡ int_max a b
    is_left l = omega (arith, ints, clamps)

-- the matrix of the join is the closed one of both sets together
pub joined-closed : (d : ℕ) (S U : State → Type 0) (m u : Matrix) → IsClosed d S m → IsClosed d U u
    → IsClosed d (λ s. S s ⊎ U s) (joined m u)
joined-closed d S U m u c k = record {
  some = (c.some.0, inl c.some.1);
  greatest = λ i j hi hj n. IsGreatest-most S U i j (m i j) (u i j) (c.greatest i j hi hj n) (k.greatest i j hi hj n);
}

pub joined-left : (d : ℕ) (m u : Matrix) (s : State) → InZone d m s → InZone d (joined m u) s
joined-left d m u s z = record {
  size = z.size;
  bounds =
      λ i j hi hj n. most-stay (m i j) (u i j) (difference s i j) (z.bounds i j hi hj n);
}

pub joined-right : (d : ℕ) (m u : Matrix) (s : State) → InZone d u s → InZone d (joined m u) s
joined-right d m u s z = record {
  size = z.size;
  bounds =
      λ i j hi hj n. most-swap (m i j) (u i j) (difference s i j) (z.bounds i j hi hj n);
}

-- each zone that has both sets has the zone of the join
pub joined-least : (d : ℕ) (S U : State → Type 0) (m u w : Matrix) → IsClosed d S m → IsClosed d U u
    → ((s : State) → S s → InZone d w s) → ((s : State) → U s → InZone d w s) → (s : State) → InZone d (joined m u) s
    → InZone d w s
joined-least d S U m u w c k hs hu s z = record {
  size = z.size;
  bounds = λ i j hi hj n. Keeps-from (w i j) (difference s i j)
      (λ a q. Keeps-at_most (joined m u i j) (difference s i j) a (z.bounds i j hi hj n)
      (most-both (m i j) (u i j) a (included d S m w c hs i j hi hj n a q) (included d U u w k hu i j hi hj n a q)));
}

-- the entrywise greater of shortest matrices is shortest
pub joined-shortest : (d : ℕ) (m u : Matrix) → IsShortest d m → IsShortest d u → IsShortest d (joined m u)
joined-shortest d m u p q =
    record {
      triangle = λ i k j hi hk hj a b ha hb. both i j (a +ℤ b)
          (p.triangle i k j hi hk hj a b (left i k a ha) (left k j b hb))
          (q.triangle i k j hi hk hj a b (right i k a ha) (right k j b hb));
    }
  where
    left : (i j : ℕ) (a : ℤ) → IsAtMost (entry (joined m u) i j) a → IsAtMost (entry m i j) a
    left i j a h = ⊎_elim
        (λ e. subst (λ y. IsAtMost (entry m i y) a) e (zero-entry m i a
        (entry-zero (joined m u) i a (subst (λ y. IsAtMost (entry (joined m u) i y) a) (sym e) h))))
        (λ n. subst (λ b. IsAtMost b a) (sym (entry-apart m i j n))
        (most-left (m i j) (u i j) a (subst (λ b. IsAtMost b a) (entry-apart (joined m u) i j n) h)))
        (same_or_apart i j)

    right : (i j : ℕ) (a : ℤ) → IsAtMost (entry (joined m u) i j) a → IsAtMost (entry u i j) a
    right i j a h = ⊎_elim
        (λ e. subst (λ y. IsAtMost (entry u i y) a) e (zero-entry u i a
        (entry-zero (joined m u) i a (subst (λ y. IsAtMost (entry (joined m u) i y) a) (sym e) h))))
        (λ n. subst (λ b. IsAtMost b a) (sym (entry-apart u i j n))
        (most-right (m i j) (u i j) a (subst (λ b. IsAtMost b a) (entry-apart (joined m u) i j n) h)))
        (same_or_apart i j)

    both : (i j : ℕ) (a : ℤ) → IsAtMost (entry m i j) a → IsAtMost (entry u i j) a → IsAtMost (entry (joined m u) i j) a
    both i j a h k = ⊎_elim
        (λ e. subst (λ y. IsAtMost (entry (joined m u) i y) a) e
        (zero-entry (joined m u) i a (entry-zero m i a (subst (λ y. IsAtMost (entry m i y) a) (sym e) h))))
        (λ n. subst (λ b. IsAtMost b a) (sym (entry-apart (joined m u) i j n))
        (most-both (m i j) (u i j) a (subst (λ b. IsAtMost b a) (entry-apart m i j n) h)
        (subst (λ b. IsAtMost b a) (entry-apart u i j n) k)))
        (same_or_apart i j)
