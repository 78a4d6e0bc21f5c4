-- A matrix is the closed one of its own zone exactly where it is shortest, and a set has one closed matrix.
-- Index: IsGreatest-least, IsGreatest-bounds, bounds-same, closed-unique, closed-same_set, closed-holds, closed-least,
-- closed-shortest, shortest-some, shortest-reaches, shortest-closed, closed-itself, closed-has, IsTriangular,
-- triangular-shortest.
use Rattle.std.proofs.Common.{◌≡◌, ◌≢◌, ◌⊎◌, inl, inr, ⊎_elim, ◌≤◌, ℕ, ℤ, pos, ◌+ℤ◌, ◌-ℤ◌, neg_ℤ, ◌≤ℤ◌, List, [], ◌∷◌, length, Some, None, refl, sym, ap, subst, ◌∙◌, arith, Contains}
use Rattle.std.specs.Int.{int_max}
use Rattle.std.proofs.lemmas.Int.{ints, clamps}
use Rattle.prog_theory.specs.States.{State, coordinate}
use Rattle.prog_theory.proofs.Elements.{Contains-none, Contains-here, Contains-there, Contains-cases}
use Rattle.zone_theory.specs.Bounds.{Bound, IsAtMost}
use Rattle.zone_theory.specs.Matrices.{Matrix, InZone, entry, difference}
use Rattle.zone_theory.specs.Shortest.{IsShortest}
use Rattle.zone_theory.specs.Closed.{IsGreatest, IsClosed}
use Rattle.zone_theory.proofs.Bounds.{le_same, le_both, Keeps-at_most, Keeps-from, IsAtMost-more}
use Rattle.zone_theory.proofs.Entries.{same_or_apart, entry-zero, zero-entry, entry-apart, apart-shortest}
use Rattle.zone_theory.proofs.Extending.{put, put-same, put-other, zone-extends}

-- a bound of all differences is at least the greatest
pub IsGreatest-least : (S : State → Type 0) (i j : ℕ) (b : Bound) (c : ℤ) → IsGreatest S i j b
    → ((s : State) → S s → difference s i j ≤ℤ c) → IsAtMost b c
IsGreatest-least S i j None c g h = let r = g (c +ℤ pos 1) in let p : difference r.0 i j ≤ℤ c =
    h r.0 r.1 in let q : (c +ℤ pos 1) ≤ℤ difference r.0 i j = r.2 in absurd (too_great (difference r.0 i j) c p q)
  where
    too_great : (x c : ℤ) → x ≤ℤ c → (c +ℤ pos 1) ≤ℤ x → ⊥
    too_great x c p q = omega (arith, ints)
IsGreatest-least S i j (Some a) c g h = subst (λ z. z ≤ℤ c) g.1.2 (h g.1.0 g.1.1)

pub IsGreatest-bounds : (S : State → Type 0) (i j : ℕ) (b : Bound) (c : ℤ) → IsGreatest S i j b → IsAtMost b c
    → (s : State) → S s → difference s i j ≤ℤ c
IsGreatest-bounds S i j None c g h s hs = absurd h
IsGreatest-bounds S i j (Some a) c g h s hs = let p : difference s i j ≤ℤ a = g.0 s hs in le_trans _ _ _ p h
  where
    le_trans : (x y z : ℤ) → x ≤ℤ y → y ≤ℤ z → x ≤ℤ z
    le_trans x y z p q = omega (arith, ints)

-- two bounds that the same numbers are above are equal
pub bounds-same : (x y : Bound) → ((c : ℤ) → IsAtMost x c → IsAtMost y c) → ((c : ℤ) → IsAtMost y c → IsAtMost x c)
    → x ≡ y
bounds-same None None h k = refl
bounds-same None (Some b) h k = absurd (k b (le_same b))
bounds-same (Some a) None h k = absurd (h a (le_same a))
bounds-same (Some a) (Some b) h k = ap Some (le_both a b (k b (le_same b)) (h a (le_same a)))

-- a set has one closed matrix
pub closed-unique : (d : ℕ) (S : State → Type 0) (m u : Matrix) → IsClosed d S m → IsClosed d S u → (i j : ℕ) → i ≤ d
    → j ≤ d → i ≢ j → m i j ≡ u i j
closed-unique d S m u cm cu i j hi hj n = bounds-same (m i j) (u i j)
    (λ c h. IsGreatest-least S i j (u i j) c (cu.greatest i j hi hj n)
    (IsGreatest-bounds S i j (m i j) c (cm.greatest i j hi hj n) h))
    (λ c h. IsGreatest-least S i j (m i j) c (cm.greatest i j hi hj n)
    (IsGreatest-bounds S i j (u i j) c (cu.greatest i j hi hj n) h))

-- equal sets have equal closed matrices
pub closed-same_set : (d : ℕ) (S U : State → Type 0) (m : Matrix) → ((s : State) → S s → U s)
    → ((s : State) → U s → S s) → IsClosed d S m → IsClosed d U m
closed-same_set d S U m h k c = record {
  some = (c.some.0, h c.some.0 c.some.1);
  greatest =
      λ i j hi hj n. go i j (m i j) (c.greatest i j hi hj n);
}
  where
    go : (i j : ℕ) (b : Bound) → IsGreatest S i j b → IsGreatest U i j b
    go i j None g = λ c. let r = g c in (r.0, h r.0 r.1, r.2)
    go i j (Some a) g = (λ s us. g.0 s (k s us), (g.1.0, h g.1.0 g.1.1, g.1.2))

-- a closed matrix of a set is a closed matrix of its own zone, which has the set
pub closed-holds : (d : ℕ) (S : State → Type 0) (m : Matrix) → IsClosed d S m → (i j : ℕ) → i ≤ d → j ≤ d → (s : State)
    → S s → (a : ℤ) → IsAtMost (entry m i j) a → difference s i j ≤ℤ a
closed-holds d S m c i j hi hj s hs a h = ⊎_elim
    (λ e. subst (λ k. difference s i k ≤ℤ a) e (zero_le (coordinate s i) a
    (entry-zero m i a (subst (λ k. IsAtMost (entry m i k) a) (sym e) h))))
    (λ n. IsGreatest-bounds S i j (m i j) a (c.greatest i j hi hj n)
    (subst (λ b. IsAtMost b a) (entry-apart m i j n) h) s hs)
    (same_or_apart i j)
  where
    zero_le : (x a : ℤ) → pos 0 ≤ℤ a → (x -ℤ x) ≤ℤ a
    zero_le x a h = omega (arith, ints)

-- what bounds each difference of the set is at least the entry
pub closed-least : (d : ℕ) (S : State → Type 0) (m : Matrix) → IsClosed d S m → (i j : ℕ) → i ≤ d → j ≤ d → (a : ℤ)
    → ((s : State) → S s → difference s i j ≤ℤ a) → IsAtMost (entry m i j) a
closed-least d S m c i j hi hj a h = ⊎_elim
    (λ e. subst (λ k. IsAtMost (entry m i k) a) e (zero-entry m i a
    (from_zero (coordinate c.some.0 i) a (subst (λ k. difference c.some.0 i k ≤ℤ a) (sym e)
    (h c.some.0 c.some.1)))))
    (λ n. subst (λ b. IsAtMost b a) (sym (entry-apart m i j n))
    (IsGreatest-least S i j (m i j) a (c.greatest i j hi hj n) h))
    (same_or_apart i j)
  where
    from_zero : (x a : ℤ) → (x -ℤ x) ≤ℤ a → pos 0 ≤ℤ a
    from_zero x a h = omega (arith, ints)

-- a closed matrix is shortest
pub closed-shortest : (d : ℕ) (S : State → Type 0) (m : Matrix) → IsClosed d S m → IsShortest d m
closed-shortest d S m c =
    record {
      triangle = λ i k j hi hk hj a b ha hb. closed-least d S m c i j hi hj (a +ℤ b)
          (λ s hs. add (coordinate s i) (coordinate s k) (coordinate s j) a b (closed-holds d S m c i k hi hk s hs a ha)
          (closed-holds d S m c k j hk hj s hs b hb));
    }
  where
    add : (x y z a b : ℤ) → (x -ℤ y) ≤ℤ a → (y -ℤ z) ≤ℤ b → (x -ℤ z) ≤ℤ (a +ℤ b)
    add x y z a b h k = omega (arith, ints)

module _ (d : ℕ) (m : Matrix) (tight : IsShortest d m) where
  -- the zone has a state
  pub shortest-some : (s : State) × InZone d m s
  shortest-some = let r = zone-extends d m tight [] (λ i. pos 0)
      (record { within = λ i c. absurd (Contains-none i c); keeps = λ i j c. absurd (Contains-none i c) }) in (r.0, r.1)

  -- each difference that both bounds of a pair allow is that of a state of the zone
  pub shortest-reaches : (i j : ℕ) → i ≤ d → j ≤ d → i ≢ j → (c : ℤ) → ((a : ℤ) → IsAtMost (m i j) a → c ≤ℤ a)
      → ((a : ℤ) → IsAtMost (m j i) a → neg_ℤ c ≤ℤ a) → (s : State) × InZone d m s × (difference s i j ≡ c)
  shortest-reaches i j hi hj n c up down = go (zone-extends d m tight K f (record { within = within; keeps = keeps }))
    where
      f : ℕ → ℤ
      f = put (λ k. pos 0) i c

      K : List ℕ
      K = i ∷ j ∷ []

      f_i : f i ≡ c
      f_i = put-same (λ k. pos 0) i c

      f_j : f j ≡ pos 0
      f_j = put-other (λ k. pos 0) i c j (λ e. n (sym e))

      which : (k : ℕ) → Contains K k → (k ≡ i) ⊎ (k ≡ j)
      which k ck =
          ⊎_elim (λ e. inl e) (λ q. ⊎_elim (λ e. inr e) (λ r. absurd (Contains-none k r)) (Contains-cases j [] k q))
          (Contains-cases i (j ∷ []) k ck)

      within : (k : ℕ) → Contains K k → k ≤ d
      within k ck = ⊎_elim (λ e. subst (λ x. x ≤ d) (sym e) hi) (λ e. subst (λ x. x ≤ d) (sym e) hj) (which k ck)

      itself : (k : ℕ) (a : ℤ) → IsAtMost (entry m k k) a → (f k -ℤ f k) ≤ℤ a
      itself k a h = zero_le (f k) a (entry-zero m k a h)
        where
          zero_le : (x a : ℤ) → pos 0 ≤ℤ a → (x -ℤ x) ≤ℤ a
          zero_le x a h = omega (arith, ints)

      there : (a : ℤ) → IsAtMost (entry m i j) a → (f i -ℤ f j) ≤ℤ a
      there a h = let p : c ≤ℤ a = up a (subst (λ b. IsAtMost b a) (entry-apart m i j n) h) in subst
          (λ y. (f i -ℤ y) ≤ℤ a) (sym f_j) (subst (λ x. (x -ℤ pos 0) ≤ℤ a) (sym f_i) (omega (arith, ints)))

      back : (a : ℤ) → IsAtMost (entry m j i) a → (f j -ℤ f i) ≤ℤ a
      back a h = let p : neg_ℤ c ≤ℤ a = down a (subst (λ b. IsAtMost b a) (entry-apart m j i (λ e. n (sym e))) h) in
          subst (λ y. (f j -ℤ y) ≤ℤ a) (sym f_i) (subst (λ x. (x -ℤ c) ≤ℤ a) (sym f_j) (omega (arith, ints)))

      keeps : (k l : ℕ) → Contains K k → Contains K l → (a : ℤ) → IsAtMost (entry m k l) a → (f k -ℤ f l) ≤ℤ a
      keeps k l ck cl = ⊎_elim
          (λ e. ⊎_elim
          (λ q. at k l i i e q (itself i))
          (λ q. at k l i j e q there)
          (which l cl))
          (λ e. ⊎_elim
          (λ q. at k l j i e q back)
          (λ q. at k l j j e q (itself j))
          (which l cl))
          (which k ck)
        where
          at : (k l x y : ℕ) → k ≡ x → l ≡ y → ((a : ℤ) → IsAtMost (entry m x y) a → (f x -ℤ f y) ≤ℤ a) → (a : ℤ)
              → IsAtMost (entry m k l) a → (f k -ℤ f l) ≤ℤ a
          at k l x y e q h = subst (λ k. (a : ℤ) → IsAtMost (entry m k l) a → (f k -ℤ f l) ≤ℤ a) (sym e)
              (subst (λ l. (a : ℤ) → IsAtMost (entry m x l) a → (f x -ℤ f l) ≤ℤ a) (sym q) h)

      go : ((s : State) × InZone d m s × ((k l : ℕ) → Contains K k → Contains K l → difference s k l ≡ f k -ℤ f l))
          → (s : State) × InZone d m s × (difference s i j ≡ c)
      go r = (
        r.0,
        r.1,
        r.2 i j (Contains-here i (j ∷ [])) (Contains-there i (j ∷ []) j (Contains-here j []))
            ∙ minus f_i f_j,
      )
        where
          minus : {x y : ℤ} → x ≡ c → y ≡ pos 0 → x -ℤ y ≡ c
          minus e q = omega (arith, ints)

  -- a shortest matrix is the closed one of its zone
  pub shortest-closed : IsClosed d (InZone d m) m
  shortest-closed = record { some = shortest-some; greatest = λ i j hi hj n. attained i j hi hj n (m i j) refl }
    where
      cycle : (i j : ℕ) → i ≤ d → j ≤ d → i ≢ j → (a b : ℤ) → IsAtMost (m i j) a → IsAtMost (m j i) b → neg_ℤ a ≤ℤ b
      cycle i j hi hj n a b ha hb = let h : pos 0 ≤ℤ (a +ℤ b) =
          entry-zero m i (a +ℤ b) (tight.triangle i j i hi hj hi a b
          (subst (λ x. IsAtMost x a) (sym (entry-apart m i j n)) ha)
          (subst (λ x. IsAtMost x b) (sym (entry-apart m j i (λ e. n (sym e)))) hb)) in omega (arith, ints)

      attained : (i j : ℕ) → i ≤ d → j ≤ d → i ≢ j → (b : Bound) → m i j ≡ b → IsGreatest (InZone d m) i j b
      attained i j hi hj n (Some c) e = (
        λ s z. Keeps-at_most (m i j) (difference s i j) c (z.bounds i j hi hj n)
            (subst (λ b. IsAtMost b c) (sym e) (le_same c)),
        shortest-reaches i j hi hj n c (λ a h. subst (λ b. IsAtMost b a) e h)
            (λ a h. cycle i j hi hj n c a (subst (λ b. IsAtMost b c) (sym e) (le_same c)) h),
      )
      attained i j hi hj n None e = λ c. far c (m j i) refl
        where
          reach : (c x : ℤ) → c ≤ℤ x → ((a : ℤ) → IsAtMost (m j i) a → neg_ℤ x ≤ℤ a)
              → (s : State) × InZone d m s × (c ≤ℤ difference s i j)
          reach c x l h = let r = shortest-reaches i j hi hj n x (λ a q. absurd (subst (λ b. IsAtMost b a) e q)) h in
              (r.0, r.1, subst (λ y. c ≤ℤ y) (sym r.2) l)

          far : (c : ℤ) (b : Bound) → m j i ≡ b → (s : State) × InZone d m s × (c ≤ℤ difference s i j)
          far c None q = reach c c (le_same c) (λ a h. absurd (subst (λ b. IsAtMost b a) q h))
          far c (Some b) q = reach c (int_max c (neg_ℤ b)) (omega (arith, ints, clamps))
              (λ a h. let p : b ≤ℤ a = subst (λ x. IsAtMost x a) q h in omega (arith, ints, clamps))

-- the closed matrix of a set is the closed one of its own zone, which has the set
pub closed-itself : (d : ℕ) (S : State → Type 0) (m : Matrix) → IsClosed d S m → IsClosed d (InZone d m) m
closed-itself d S m c = shortest-closed d m (closed-shortest d S m c)

pub closed-has : (d : ℕ) (S : State → Type 0) (m : Matrix) → IsClosed d S m → (s : State) → length s ≡ d → S s
    → InZone d m s
closed-has d S m c s e hs = record {
  size = e;
  bounds =
      λ i j hi hj n. Keeps-from (m i j) (difference s i j)
      (λ a h. IsGreatest-bounds S i j (m i j) a (c.greatest i j hi hj n) h s hs);
}

-- the law of the triangle at different coordinates, and no way back and forth with a sum below 0
pub record IsTriangular (d : ℕ) (m : Matrix) : Type 0 where
  pub triangle : (i k j : ℕ) → i ≤ d → k ≤ d → j ≤ d → i ≢ k → k ≢ j → i ≢ j → (a b : ℤ) → m i k ≡ Some a
      → m k j ≡ Some b → IsAtMost (m i j) (a +ℤ b)
  pub cycle : (i j : ℕ) → i ≤ d → j ≤ d → i ≢ j → (a b : ℤ) → m i j ≡ Some a → m j i ≡ Some b → pos 0 ≤ℤ (a +ℤ b)

at_most-number : (b : Bound) (c : ℤ) → IsAtMost b c → (a : ℤ) × (b ≡ Some a) × (a ≤ℤ c)
at_most-number None c h = absurd h
at_most-number (Some a) c h = (a, refl, h)

pub triangular-shortest : (d : ℕ) (m : Matrix) → IsTriangular d m → IsShortest d m
triangular-shortest d m t = apart-shortest d m go
  where
    sum : (a b x y : ℤ) → x ≤ℤ a → y ≤ℤ b → (x +ℤ y) ≤ℤ (a +ℤ b)
    sum a b x y p q = omega (arith, ints)

    trans : (x y z : ℤ) → x ≤ℤ y → y ≤ℤ z → x ≤ℤ z
    trans x y z p q = omega (arith, ints)

    number : (i j : ℕ) → i ≢ j → (a : ℤ) → IsAtMost (entry m i j) a → (x : ℤ) × (m i j ≡ Some x) × (x ≤ℤ a)
    number i j n a h = at_most-number (m i j) a (subst (λ b. IsAtMost b a) (entry-apart m i j n) h)

    go : (i k j : ℕ) → i ≤ d → k ≤ d → j ≤ d → i ≢ k → k ≢ j → (a b : ℤ) → IsAtMost (entry m i k) a
        → IsAtMost (entry m k j) b → IsAtMost (entry m i j) (a +ℤ b)
    go i k j hi hk hj ik kj a b ha hb = ⊎_elim
        (λ e. let p = number i k ik a ha in let q = number k j kj b hb in subst
        (λ y. IsAtMost (entry m i y) (a +ℤ b)) e (zero-entry m i (a +ℤ b)
        (trans (pos 0) (p.0 +ℤ q.0) (a +ℤ b) (t.cycle i k hi hk ik p.0 q.0 p.1
        (subst (λ y. m k y ≡ Some q.0) (sym e) q.1)) (sum a b p.0 q.0 p.2 q.2))))
        (λ ij. let p = number i k ik a ha in let q = number k j kj b hb in subst (λ x. IsAtMost x (a +ℤ b))
        (sym (entry-apart m i j ij)) (IsAtMost-more (m i j) (p.0 +ℤ q.0) (a +ℤ b)
        (t.triangle i k j hi hk hj ik kj ij p.0 q.0 p.1 q.1) (sum a b p.0 q.0 p.2 q.2)))
        (same_or_apart i j)
