-- The matrix of an assignment has exactly the states that the assignment gives.
-- Index: assigned-shortest, assigned-from, from-assigned.
use Rattle.std.proofs.Common.{◌≡◌, ◌≢◌, ⊎_elim, ◌≤◌, ℕ, ℤ, pos, ◌+ℤ◌, ◌-ℤ◌, ◌≤ℤ◌, cond, length, Some, sym, ap, subst, ◌∙◌, arith}
use Rattle.std.proofs.lemmas.Int.{ints}
use Rattle.prog_theory.specs.States.{State, Term, coordinate, value, changed}
use Rattle.prog_theory.specs.Edges.{Sets}
use Rattle.prog_theory.specs.Walks.{Leads}
use Rattle.zone_theory.specs.Bounds.{IsAtMost}
use Rattle.zone_theory.specs.Matrices.{Matrix, InZone, entry, difference}
use Rattle.zone_theory.specs.Shortest.{IsShortest}
use Rattle.zone_theory.specs.Assigning.{source, shift, assigned}
use Rattle.zone_theory.proofs.Bounds.{le_same, IsAtMost-more, plus-parts, plus-both}
use Rattle.zone_theory.proofs.Entries.{same_or_apart, eqb_same, eqb_apart, entry-zero, zero-entry, entry-apart, InZone-entry, InZone-from}
use Rattle.zone_theory.proofs.Coordinates.{length-changed, coordinate-changed_same, coordinate-changed_other}
use Rattle.zone_theory.proofs.Others.{state-same, others-extend}

source-same : (v f : ℕ) → source v f v ≡ f
source-same v f = ap (λ b. cond b f v) (eqb_same v)

source-other : (v f i : ℕ) → i ≢ v → source v f i ≡ i
source-other v f i n = ap (λ b. cond b f i) (eqb_apart i v n)

shift-same : (v : ℕ) (c : ℤ) → shift v c v ≡ c
shift-same v c = ap (λ b. cond b c (pos 0)) (eqb_same v)

shift-other : (v : ℕ) (c : ℤ) (i : ℕ) → i ≢ v → shift v c i ≡ pos 0
shift-other v c i n = ap (λ b. cond b c (pos 0)) (eqb_apart i v n)

source-within : (d v f i : ℕ) → f ≤ d → i ≤ d → source v f i ≤ d
source-within d v f i hf hi =
    ⊎_elim (λ e. subst (λ x. source v f x ≤ d) (sym e) (subst (λ x. x ≤ d) (sym (source-same v f)) hf))
    (λ n. subst (λ x. x ≤ d) (sym (source-other v f i n)) hi) (same_or_apart i v)

module _ (m : Matrix) (v f : ℕ) (c : ℤ) where
  -- the number that is added at i and j
  abbrev gap : ℕ → ℕ → ℤ
  gap i j = shift v c i -ℤ shift v c j

  entry-assigned : (i j : ℕ) (a : ℤ) → IsAtMost (entry (assigned m v f c) i j) a
      → IsAtMost (entry m (source v f i) (source v f j)) (a -ℤ gap i j)
  entry-assigned i j a h = ⊎_elim same apart (same_or_apart i j)
    where
      same : i ≡ j → IsAtMost (entry m (source v f i) (source v f j)) (a -ℤ (shift v c i -ℤ shift v c j))
      same e = subst (λ y. IsAtMost (entry m (source v f i) (source v f y)) (a -ℤ (shift v c i -ℤ shift v c y))) e
          (zero-entry m (source v f i) (a -ℤ (shift v c i -ℤ shift v c i))
          (zero (shift v c i) (entry-zero (assigned m v f c) i a
          (subst (λ y. IsAtMost (entry (assigned m v f c) i y) a) (sym e) h))))
        where
          zero : (x : ℤ) → pos 0 ≤ℤ a → pos 0 ≤ℤ (a -ℤ (x -ℤ x))
          zero x p = omega (arith, ints)

      apart : i ≢ j → IsAtMost (entry m (source v f i) (source v f j)) (a -ℤ (shift v c i -ℤ shift v c j))
      apart n =
          parts (plus-parts (entry m (source v f i) (source v f j)) (Some (shift v c i -ℤ shift v c j)) a
          (subst (λ b. IsAtMost b a) (entry-apart (assigned m v f c) i j n) h))
        where
          parts : (x : ℤ) × (y : ℤ) × IsAtMost (entry m (source v f i) (source v f j)) x × IsAtMost
              (Some (shift v c i -ℤ shift v c j)) y × ((x +ℤ y) ≤ℤ a)
              → IsAtMost (entry m (source v f i) (source v f j)) (a -ℤ (shift v c i -ℤ shift v c j))
          parts r = IsAtMost-more (entry m (source v f i) (source v f j)) r.0 (a -ℤ (shift v c i -ℤ shift v c j)) r.2
              (less r.0 r.1 (shift v c i -ℤ shift v c j) r.3 r.4)
            where
              less : (x y z : ℤ) → z ≤ℤ y → (x +ℤ y) ≤ℤ a → x ≤ℤ (a -ℤ z)
              less x y z p q = omega (arith, ints)

  assigned-entry : (i j : ℕ) (a : ℤ) → IsAtMost (entry m (source v f i) (source v f j)) a
      → IsAtMost (entry (assigned m v f c) i j) (a +ℤ gap i j)
  assigned-entry i j a h = ⊎_elim same apart (same_or_apart i j)
    where
      same : i ≡ j → IsAtMost (entry (assigned m v f c) i j) (a +ℤ (shift v c i -ℤ shift v c j))
      same e = subst (λ y. IsAtMost (entry (assigned m v f c) i y) (a +ℤ (shift v c i -ℤ shift v c y))) e
          (zero-entry (assigned m v f c) i (a +ℤ (shift v c i -ℤ shift v c i))
          (zero (shift v c i) (entry-zero m (source v f i) a
          (subst (λ y. IsAtMost (entry m (source v f i) (source v f y)) a) (sym e) h))))
        where
          zero : (x : ℤ) → pos 0 ≤ℤ a → pos 0 ≤ℤ (a +ℤ (x -ℤ x))
          zero x p = omega (arith, ints)

      apart : i ≢ j → IsAtMost (entry (assigned m v f c) i j) (a +ℤ (shift v c i -ℤ shift v c j))
      apart n = subst (λ b. IsAtMost b (a +ℤ (shift v c i -ℤ shift v c j)))
          (sym (entry-apart (assigned m v f c) i j n))
          (plus-both (entry m (source v f i) (source v f j)) (Some (shift v c i -ℤ shift v c j)) a
          (shift v c i -ℤ shift v c j) (a +ℤ (shift v c i -ℤ shift v c j)) h (le_same (shift v c i -ℤ shift v c j))
          (le_same (a +ℤ (shift v c i -ℤ shift v c j))))

  -- the new matrix is shortest
  pub assigned-shortest : (d : ℕ) → f ≤ d → IsShortest d m → IsShortest d (assigned m v f c)
  assigned-shortest d hf tight = record {
    triangle = λ i k j hi hk hj a b ha hb. IsAtMost-more (entry (assigned m v f c) i j)
        (((a -ℤ gap i k) +ℤ (b -ℤ gap k j)) +ℤ gap i j) (a +ℤ b)
        (assigned-entry i j ((a -ℤ gap i k) +ℤ (b -ℤ gap k j))
        (tight.triangle (source v f i) (source v f k) (source v f j) (source-within d v f i hf hi)
        (source-within d v f k hf hk) (source-within d v f j hf hj) (a -ℤ gap i k) (b -ℤ gap k j)
        (entry-assigned i k a ha) (entry-assigned k j b hb)))
        (sum a b (shift v c i) (shift v c k) (shift v c j));
  }
    where
      sum : (a b x y z : ℤ) → (((a -ℤ (x -ℤ y)) +ℤ (b -ℤ (y -ℤ z))) +ℤ (x -ℤ z)) ≤ℤ (a +ℤ b)
      sum a b x y z = omega (arith, ints)

-- a coordinate after an assignment
coordinate-assigned : (s : State) (v f : ℕ) (c : ℤ) → v ≢ 0 → v ≤ length s → (i : ℕ)
    → coordinate (changed s v (coordinate s f +ℤ c)) i ≡ coordinate s (source v f i) +ℤ shift v c i
coordinate-assigned s v f c nz hv i = ⊎_elim
    (λ e. subst (λ x. coordinate (changed s v (coordinate s f +ℤ c)) x ≡ coordinate s (source v f x) +ℤ shift v c x)
    (sym e)
    (coordinate-changed_same s v (coordinate s f +ℤ c) nz hv
    ∙ sym (ap (λ x. coordinate s x +ℤ shift v c v) (source-same v f)
    ∙ ap (λ y. coordinate s f +ℤ y) (shift-same v c))))
    (λ n. coordinate-changed_other s v (coordinate s f +ℤ c) i n ∙ zero (coordinate s i)
    ∙ sym (ap (λ x. coordinate s x +ℤ shift v c i) (source-other v f i n)
    ∙ ap (λ y. coordinate s i +ℤ y) (shift-other v c i n)))
    (same_or_apart i v)
  where
    zero : (x : ℤ) → x ≡ x +ℤ pos 0
    zero x = omega (arith, ints)

module _ (d : ℕ) (m : Matrix) (v : ℕ) (nz : v ≢ 0) (hv : v ≤ d) (r : Term) (hf : r.coord ≤ d) where
  pub assigned-from : (s t : State) → InZone d m s → Leads (Sets v r) s t → InZone d (assigned m v r.coord r.add) t
  assigned-from s t z e = subst (λ x. InZone d (assigned m v r.coord r.add) x) (sym e) (record {
    size = length-changed s v (value r s) ∙ z.size;
    bounds = InZone-from d (assigned m v r.coord r.add) (changed s v (value r s)) kept;
  })
    where
      at : (i : ℕ) → coordinate (changed s v (value r s)) i ≡ coordinate s (source v r.coord i) +ℤ shift v r.add i
      at i = coordinate-assigned s v r.coord r.add nz (subst (λ n. v ≤ n) (sym z.size) hv) i

      kept : (i j : ℕ) → i ≤ d → j ≤ d → (a : ℤ) → IsAtMost (entry (assigned m v r.coord r.add) i j) a
          → difference (changed s v (value r s)) i j ≤ℤ a
      kept i j hi hj a h = less (coordinate (changed s v (value r s)) i) (coordinate (changed s v (value r s)) j)
          (coordinate s (source v r.coord i)) (coordinate s (source v r.coord j)) (shift v r.add i) (shift v r.add j)
          (at i) (at j) (InZone-entry d m s z (source v r.coord i) (source v r.coord j)
          (source-within d v r.coord i hf hi) (source-within d v r.coord j hf hj)
          (a -ℤ (shift v r.add i -ℤ shift v r.add j)) (entry-assigned m v r.coord r.add i j a h))
        where
          less : (x y p q k l : ℤ) → x ≡ p +ℤ k → y ≡ q +ℤ l → (p -ℤ q) ≤ℤ (a -ℤ (k -ℤ l)) → (x -ℤ y) ≤ℤ a
          less x y p q k l e1 e2 h = omega (arith, ints)

  -- in a state of the new zone, an old bound of two sources bounds their new coordinates
  assigned-bounds : (t : State) → InZone d (assigned m v r.coord r.add) t → (i j : ℕ) → i ≤ d → j ≤ d → (a : ℤ)
      → IsAtMost (entry m (source v r.coord i) (source v r.coord j)) a
      → difference t i j ≤ℤ (a +ℤ (shift v r.add i -ℤ shift v r.add j))
  assigned-bounds t z i j hi hj a h = InZone-entry d (assigned m v r.coord r.add) t z i j hi hj
      (a +ℤ (shift v r.add i -ℤ shift v r.add j)) (assigned-entry m v r.coord r.add i j a h)

  pub from-assigned : IsShortest d m → (t : State) → InZone d (assigned m v r.coord r.add) t
      → (s : State) × InZone d m s × Leads (Sets v r) s t
  from-assigned tight t z = ⊎_elim itself other (same_or_apart r.coord v)
    where
      given : (s : State) → InZone d m s → ((i : ℕ) → i ≤ d
          → coordinate t i ≡ coordinate s (source v r.coord i) +ℤ shift v r.add i)
          → (s : State) × InZone d m s × Leads (Sets v r) s t
      given s zs h = (
        s,
        zs,
        state-same t (changed s v (value r s)) (z.size ∙ sym (length-changed s v (value r s) ∙ zs.size))
            (λ i l. h i (subst (λ n. i ≤ n) z.size l) ∙ sym
            (coordinate-assigned s v r.coord r.add nz (subst (λ n. v ≤ n) (sym zs.size) hv) i)),
      )

      -- a shift
      itself : r.coord ≡ v → (s : State) × InZone d m s × Leads (Sets v r) s t
      itself e = given s (record { size = length-changed t v w ∙ z.size; bounds = InZone-from d m s kept }) back
        where
          w : ℤ
          w = coordinate t v -ℤ r.add

          s : State
          s = changed t v w

          stays : (i : ℕ) → source v r.coord i ≡ i
          stays i = ⊎_elim (λ q. subst (λ x. source v r.coord x ≡ x) (sym q) (source-same v r.coord ∙ e))
              (λ n. source-other v r.coord i n) (same_or_apart i v)

          at : (i : ℕ) → coordinate s i ≡ coordinate t i -ℤ shift v r.add i
          at i = ⊎_elim
              (λ q. subst (λ x. coordinate s x ≡ coordinate t x -ℤ shift v r.add x) (sym q)
              (coordinate-changed_same t v w nz (subst (λ n. v ≤ n) (sym z.size) hv)
              ∙ ap (λ y. coordinate t v -ℤ y) (sym (shift-same v r.add))))
              (λ n. coordinate-changed_other t v w i n ∙ minus_zero (coordinate t i)
              ∙ ap (λ y. coordinate t i -ℤ y) (sym (shift-other v r.add i n)))
              (same_or_apart i v)
            where
              minus_zero : (x : ℤ) → x ≡ x -ℤ pos 0
              minus_zero x = omega (arith, ints)

          kept : (i j : ℕ) → i ≤ d → j ≤ d → (a : ℤ) → IsAtMost (entry m i j) a → difference s i j ≤ℤ a
          kept i j hi hj a h = less (coordinate s i) (coordinate s j) (coordinate t i) (coordinate t j)
              (shift v r.add i) (shift v r.add j) (at i) (at j)
              (assigned-bounds t z i j hi hj a (subst (λ x. IsAtMost (entry m x (source v r.coord j)) a)
              (sym (stays i)) (subst (λ y. IsAtMost (entry m i y) a) (sym (stays j)) h)))
            where
              less : (x y p q k l : ℤ) → x ≡ p -ℤ k → y ≡ q -ℤ l → (p -ℤ q) ≤ℤ (a +ℤ (k -ℤ l)) → (x -ℤ y) ≤ℤ a
              less x y p q k l e1 e2 h = omega (arith, ints)

          back : (i : ℕ) → i ≤ d → coordinate t i ≡ coordinate s (source v r.coord i) +ℤ shift v r.add i
          back i hi = subst (λ x. coordinate t i ≡ coordinate s x +ℤ shift v r.add i) (sym (stays i))
              (add (coordinate s i) (coordinate t i) (shift v r.add i) (at i))
            where
              add : (x y k : ℤ) → x ≡ y -ℤ k → y ≡ x +ℤ k
              add x y k e = omega (arith, ints)

      -- the old value of v is one that the others allow
      other : r.coord ≢ v → (s : State) × InZone d m s × Leads (Sets v r) s t
      other nf = go (others-extend d m tight v nz t kept)
        where
          kept : (i j : ℕ) → i ≤ d → j ≤ d → i ≢ v → j ≢ v → (a : ℤ) → IsAtMost (entry m i j) a → difference t i j ≤ℤ a
          kept i j hi hj ni nj a h = less (difference t i j) (shift v r.add i) (shift v r.add j)
              (shift-other v r.add i ni) (shift-other v r.add j nj)
              (assigned-bounds t z i j hi hj a (subst (λ x. IsAtMost (entry m x (source v r.coord j)) a)
              (sym (source-other v r.coord i ni)) (subst (λ y. IsAtMost (entry m i y) a)
              (sym (source-other v r.coord j nj)) h)))
            where
              less : (x k l : ℤ) → k ≡ pos 0 → l ≡ pos 0 → x ≤ℤ (a +ℤ (k -ℤ l)) → x ≤ℤ a
              less x k l e1 e2 h = omega (arith, ints)

          both : (i j : ℕ) → source v r.coord i ≡ source v r.coord j → i ≤ d → j ≤ d
              → difference t i j ≤ℤ (pos 0 +ℤ (shift v r.add i -ℤ shift v r.add j))
          both i j e hi hj = assigned-bounds t z i j hi hj (pos 0)
              (subst (λ y. IsAtMost (entry m (source v r.coord i) y) (pos 0)) e
              (zero-entry m (source v r.coord i) (pos 0) (le_same (pos 0))))

          one : source v r.coord v ≡ source v r.coord r.coord
          one = source-same v r.coord ∙ sym (source-other v r.coord r.coord nf)

          new : coordinate t v ≡ coordinate t r.coord +ℤ r.add
          new = exact (coordinate t v) (coordinate t r.coord) (shift v r.add v) (shift v r.add r.coord)
              (shift-same v r.add) (shift-other v r.add r.coord nf) (both v r.coord one hv hf)
              (both r.coord v (sym one) hf hv)
            where
              exact : (x y k l : ℤ) → k ≡ r.add → l ≡ pos 0 → (x -ℤ y) ≤ℤ (pos 0 +ℤ (k -ℤ l))
                  → (y -ℤ x) ≤ℤ (pos 0 +ℤ (l -ℤ k)) → x ≡ y +ℤ r.add
              exact x y k l e1 e2 h q = omega (arith, ints)

          go : ((s : State) × InZone d m s × ((i : ℕ) → i ≤ d → i ≢ v → coordinate s i ≡ coordinate t i))
              → (s : State) × InZone d m s × Leads (Sets v r) s t
          go q = given q.0 q.1 (λ i hi. ⊎_elim
              (λ e. subst (λ x. coordinate t x ≡ coordinate q.0 (source v r.coord x) +ℤ shift v r.add x) (sym e)
              (new ∙ ap (λ x. x +ℤ r.add) (sym (q.2 r.coord hf nf))
              ∙ sym (ap (λ x. coordinate q.0 x +ℤ shift v r.add v) (source-same v r.coord)
              ∙ ap (λ y. coordinate q.0 r.coord +ℤ y) (shift-same v r.add))))
              (λ n. sym (q.2 i hi n) ∙ plus_zero (coordinate q.0 i)
              ∙ sym (ap (λ x. coordinate q.0 x +ℤ shift v r.add i) (source-other v r.coord i n)
              ∙ ap (λ y. coordinate q.0 i +ℤ y) (shift-other v r.add i n)))
              (same_or_apart i v))
            where
              plus_zero : (x : ℤ) → x ≡ x +ℤ pos 0
              plus_zero x = omega (arith, ints)
