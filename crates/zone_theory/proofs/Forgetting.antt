-- To forget a coordinate gives the states that differ there from a state of the zone.
use Rattle.std.proofs.Common.{◌≡◌, ◌≢◌, ⊎_elim, ◌≤◌, ℕ, ℤ, pos, ◌+ℤ◌, ◌-ℤ◌, ◌≤ℤ◌, eqb, cond, length, None, sym, ap, subst, ◌∙◌, arith}
use Rattle.std.proofs.lemmas.Int.{ints}
use Rattle.prog_theory.specs.States.{State, coordinate, changed}
use Rattle.prog_theory.specs.Edges.{Havocs}
use Rattle.prog_theory.specs.Walks.{Leads}
use Rattle.zone_theory.specs.Bounds.{IsAtMost}
use Rattle.zone_theory.specs.Matrices.{Matrix, InZone, entry, difference}
use Rattle.zone_theory.specs.Shortest.{IsShortest}
use Rattle.zone_theory.specs.Forgetting.{forgotten}
use Rattle.zone_theory.proofs.Bounds.{IsAtMost-more}
use Rattle.zone_theory.proofs.Entries.{same_or_apart, eqb_same, eqb_apart, entry-zero, zero-entry, entry-apart, apart-shortest, InZone-entry, InZone-from}
use Rattle.zone_theory.proofs.Coordinates.{length-changed, coordinate-changed_same, coordinate-changed_other}
use Rattle.zone_theory.proofs.Others.{state-same, others-extend}

forgotten-row : (m : Matrix) (v j : ℕ) → forgotten m v v j ≡ None
forgotten-row m v j = ap (λ b. cond b None (cond (eqb j v) None (m v j))) (eqb_same v)

forgotten-column : (m : Matrix) (v i : ℕ) → i ≢ v → forgotten m v i v ≡ None
forgotten-column m v i n = ap (λ b. cond b None (cond (eqb v v) None (m i v))) (eqb_apart i v n)
    ∙ ap (λ b. cond b None (m i v)) (eqb_same v)

forgotten-other : (m : Matrix) (v i j : ℕ) → i ≢ v → j ≢ v → forgotten m v i j ≡ m i j
forgotten-other m v i j n k = ap (λ b. cond b None (cond (eqb j v) None (m i j))) (eqb_apart i v n)
    ∙ ap (λ b. cond b None (m i j)) (eqb_apart j v k)

-- a number of the matrix that is left is an old one
record Old (m : Matrix) (v i j : ℕ) (a : ℤ) : Type 0 where
  row : i ≢ v
  column : j ≢ v
  bound : IsAtMost (entry m i j) a

forgotten-cases : (m : Matrix) (v i j : ℕ) (a : ℤ) → IsAtMost (entry (forgotten m v) i j) a → i ≢ j → Old m v i j a
forgotten-cases m v i j a h n = ⊎_elim
    (λ e. absurd (subst (λ b. IsAtMost b a) (forgotten-row m v j) (subst (λ x. IsAtMost (forgotten m v x j) a) e here)))
    (λ row. ⊎_elim
    (λ e. absurd (subst (λ b. IsAtMost b a) (forgotten-column m v i row)
    (subst (λ y. IsAtMost (forgotten m v i y) a) e here)))
    (λ column. record {
      row = row;
      column = column;
      bound =
          subst (λ b. IsAtMost b a) (sym (entry-apart m i j n))
          (subst (λ b. IsAtMost b a) (forgotten-other m v i j row column) here);
    })
    (same_or_apart j v))
    (same_or_apart i v)
  where
    here : IsAtMost (forgotten m v i j) a
    here = subst (λ b. IsAtMost b a) (entry-apart (forgotten m v) i j n) h

forgotten-keeps : (m : Matrix) (v i j : ℕ) (a : ℤ) → i ≢ v → j ≢ v → IsAtMost (entry m i j) a
    → IsAtMost (entry (forgotten m v) i j) a
forgotten-keeps m v i j a row column h = ⊎_elim
    (λ e. subst (λ y. IsAtMost (entry (forgotten m v) i y) a) e
    (zero-entry (forgotten m v) i a (entry-zero m i a (subst (λ y. IsAtMost (entry m i y) a) (sym e) h))))
    (λ n. subst (λ b. IsAtMost b a)
    (sym (entry-apart (forgotten m v) i j n ∙ forgotten-other m v i j row column ∙ sym (entry-apart m i j n))) h)
    (same_or_apart i j)

-- the matrix that is left is shortest
pub forgotten-shortest : (d : ℕ) (m : Matrix) (v : ℕ) → IsShortest d m → IsShortest d (forgotten m v)
forgotten-shortest d m v tight = apart-shortest d u go
  where
    u : Matrix
    u = forgotten m v

    go : (i k j : ℕ) → i ≤ d → k ≤ d → j ≤ d → i ≢ k → k ≢ j → (a b : ℤ) → IsAtMost (entry u i k) a
        → IsAtMost (entry u k j) b → IsAtMost (entry u i j) (a +ℤ b)
    go i k j hi hk hj n q a b ha hb = both (forgotten-cases m v i k a ha n) (forgotten-cases m v k j b hb q)
      where
        both : Old m v i k a → Old m v k j b → IsAtMost (entry u i j) (a +ℤ b)
        both p q = forgotten-keeps m v i j (a +ℤ b) p.row q.column (tight.triangle i k j hi hk hj a b p.bound q.bound)

pub forgotten-from : (d : ℕ) (m : Matrix) (v : ℕ) → (s t : State) → InZone d m s → Leads (Havocs v) s t
    → InZone d (forgotten m v) t
forgotten-from d m v s t z h = subst (λ x. InZone d (forgotten m v) x) (sym h.1) (record {
  size = length-changed s v h.0 ∙ z.size;
  bounds = InZone-from d (forgotten m v) (changed s v h.0) kept;
})
  where
    t' : State
    t' = changed s v h.0

    kept : (i j : ℕ) → i ≤ d → j ≤ d → (a : ℤ) → IsAtMost (entry (forgotten m v) i j) a → difference t' i j ≤ℤ a
    kept i j hi hj a k = ⊎_elim
        (λ e. subst (λ y. difference t' i y ≤ℤ a) e (zero_le (coordinate t' i)
        (entry-zero (forgotten m v) i a (subst (λ y. IsAtMost (entry (forgotten m v) i y) a) (sym e) k))))
        (λ n. old (forgotten-cases m v i j a k n))
        (same_or_apart i j)
      where
        zero_le : (x : ℤ) → pos 0 ≤ℤ a → (x -ℤ x) ≤ℤ a
        zero_le x h = omega (arith, ints)

        old : Old m v i j a → difference t' i j ≤ℤ a
        old o = subst (λ x. (x -ℤ coordinate t' j) ≤ℤ a) (sym (coordinate-changed_other s v h.0 i o.row))
            (subst (λ y. (coordinate s i -ℤ y) ≤ℤ a) (sym (coordinate-changed_other s v h.0 j o.column))
            (InZone-entry d m s z i j hi hj a o.bound))

pub from-forgotten : (d : ℕ) (m : Matrix) (v : ℕ) → IsShortest d m → v ≢ 0 → v ≤ d → (t : State)
    → InZone d (forgotten m v) t → (s : State) × InZone d m s × Leads (Havocs v) s t
from-forgotten d m v tight nz hv t z =
    go (others-extend d m tight v nz t (λ i j hi hj ni nj a h. InZone-entry d (forgotten m v) t z i j hi hj a
    (forgotten-keeps m v i j a ni nj h)))
  where
    go : ((s : State) × InZone d m s × ((i : ℕ) → i ≤ d → i ≢ v → coordinate s i ≡ coordinate t i))
        → (s : State) × InZone d m s × Leads (Havocs v) s t
    go r = (
      r.0,
      r.1,
      (
        coordinate t v,
        state-same t (changed r.0 v (coordinate t v))
            (z.size ∙ sym (length-changed r.0 v (coordinate t v) ∙ r.1.size)) equal,
      ),
    )
      where
        equal : (i : ℕ) → i ≤ length t → coordinate t i ≡ coordinate (changed r.0 v (coordinate t v)) i
        equal i l = ⊎_elim
            (λ e. subst (λ x. coordinate t x ≡ coordinate (changed r.0 v (coordinate t v)) x) (sym e)
            (sym (coordinate-changed_same r.0 v (coordinate t v) nz (subst (λ n. v ≤ n) (sym r.1.size) hv))))
            (λ n. sym (r.2 i (subst (λ n. i ≤ n) z.size l) n)
            ∙ sym (coordinate-changed_other r.0 v (coordinate t v) i n))
            (same_or_apart i v)
