-- The numbers of a closed matrix are no greater than those that it comes from, times the number of variables.
-- Index: AreModest, greatest-high, greatest-low, closed-modest, closing-closed.
use Rattle.std.proofs.Common.{◌≡◌, ◌≢◌, ◌⊎◌, inl, inr, ⊎_elim, ◌≤◌, ◌*◌, ℕ, ℤ, pos, ◌+ℤ◌, ◌-ℤ◌, neg_ℤ, ◌≤ℤ◌, ◌<ℤ◌, List, Contains, Some, refl, sym, subst, arith}
use Rattle.std.proofs.lemmas.Int.{ints}
use Rattle.prog_theory.specs.States.{State, coordinate}
use Rattle.zone_theory.specs.Matrices.{Matrix, InZone, difference, free}
use Rattle.zone_theory.specs.Closed.{IsGreatest, IsClosed}
use Rattle.zone_theory.specs.Limits.{Limit, IsIn}
use Rattle.zone_theory.proofs.Bounds.{lt_or_le}
use Rattle.zone_theory.proofs.Coordinates.{state_of, length-state_of, difference-state_of}
use Rattle.zone_theory.proofs.Limits.{Meeting, Closing, free-all}
use Rattle.zone_theory.proofs.Closing.{closed-same_set, shortest-closed}
use Rattle.zone_theory.proofs.Gaps.{IsGap, gap-from}

-- what isn't below u moved up by one, or down by one
lift : ℤ → ℤ → ℤ
lift u x = ⊎_elim (λ l. x) (λ l. x +ℤ pos 1) (lt_or_le x u)

sink : ℤ → ℤ → ℤ
sink u x = ⊎_elim (λ l. x) (λ l. x -ℤ pos 1) (lt_or_le x u)

lift-cases : (u x : ℤ) → ((x <ℤ u) × (lift u x ≡ x)) ⊎ ((u ≤ℤ x) × (lift u x ≡ x +ℤ pos 1))
unfolding lift
lift-cases u x = go (lt_or_le x u)
  where
    go : (r : (x <ℤ u) ⊎ (u ≤ℤ x)) → ((x <ℤ u) × (⊎_elim (λ l. x) (λ l. x +ℤ pos 1) r ≡ x)) ⊎
        ((u ≤ℤ x) × (⊎_elim (λ l. x) (λ l. x +ℤ pos 1) r ≡ x +ℤ pos 1))
    go (inl l) = inl (l, refl)
    go (inr l) = inr (l, refl)

sink-cases : (u x : ℤ) → ((x <ℤ u) × (sink u x ≡ x)) ⊎ ((u ≤ℤ x) × (sink u x ≡ x -ℤ pos 1))
unfolding sink
sink-cases u x = go (lt_or_le x u)
  where
    go : (r : (x <ℤ u) ⊎ (u ≤ℤ x)) → ((x <ℤ u) × (⊎_elim (λ l. x) (λ l. x -ℤ pos 1) r ≡ x)) ⊎
        ((u ≤ℤ x) × (⊎_elim (λ l. x) (λ l. x -ℤ pos 1) r ≡ x -ℤ pos 1))
    go (inl l) = inl (l, refl)
    go (inr l) = inr (l, refl)

lift-meets : (u x y c : ℤ) (B : ℕ) → (x -ℤ y) ≤ℤ c → c ≤ℤ pos B → (y <ℤ u → (y +ℤ pos B) <ℤ u)
    → (lift u x -ℤ lift u y) ≤ℤ c
lift-meets u x y c B h modest far = go (lift u x) (lift u y) (lift-cases u x) (lift-cases u y)
  where
    go : (p q : ℤ) → ((x <ℤ u) × (p ≡ x)) ⊎ ((u ≤ℤ x) × (p ≡ x +ℤ pos 1))
        → ((y <ℤ u) × (q ≡ y)) ⊎ ((u ≤ℤ y) × (q ≡ y +ℤ pos 1)) → (p -ℤ q) ≤ℤ c
    go p q (inl a) (inl b) = omega (arith, ints, a.1, b.1, h)
    go p q (inl a) (inr b) = omega (arith, ints, a.1, b.1, h)
    go p q (inr a) (inl b) = let f : (y +ℤ pos B) <ℤ u = far b.0 in omega (arith, ints, a.0, a.1, b.1, h, modest)
    go p q (inr a) (inr b) = omega (arith, ints, a.1, b.1, h)

sink-meets : (u x y c : ℤ) (B : ℕ) → (x -ℤ y) ≤ℤ c → neg_ℤ (pos B) ≤ℤ c → (x <ℤ u → (x +ℤ pos B) <ℤ u)
    → (sink u x -ℤ sink u y) ≤ℤ c
sink-meets u x y c B h modest far = go (sink u x) (sink u y) (sink-cases u x) (sink-cases u y)
  where
    go : (p q : ℤ) → ((x <ℤ u) × (p ≡ x)) ⊎ ((u ≤ℤ x) × (p ≡ x -ℤ pos 1))
        → ((y <ℤ u) × (q ≡ y)) ⊎ ((u ≤ℤ y) × (q ≡ y -ℤ pos 1)) → (p -ℤ q) ≤ℤ c
    go p q (inl a) (inl b) = omega (arith, ints, a.1, b.1, h)
    go p q (inl a) (inr b) = let f : (x +ℤ pos B) <ℤ u = far a.0 in omega (arith, ints, a.1, b.0, b.1, h, modest)
    go p q (inr a) (inl b) = omega (arith, ints, a.1, b.1, h)
    go p q (inr a) (inr b) = omega (arith, ints, a.1, b.1, h)

-- each number is at most B, and at least its opposite
pub record AreModest (d B : ℕ) (bs : List Limit) : Type 0 where
  pub inside : (b : Limit) → Contains bs b → IsIn d b
  pub high : (b : Limit) → Contains bs b → b.most ≤ℤ pos B
  pub low : (b : Limit) → Contains bs b → neg_ℤ (pos B) ≤ℤ b.most

module _ (d B : ℕ) (bs : List Limit) (modest : AreModest d B bs) where
  moved : (s : State) → Meeting d free bs s → (g : ℤ → ℤ)
      → ((b : Limit) → Contains bs b → (g (coordinate s b.high) -ℤ g (coordinate s b.low)) ≤ℤ b.most)
      → Meeting d free bs (state_of d (λ i. g (coordinate s i)))
  moved s z g h = record {
    zone = free-all d (state_of d (λ i. g (coordinate s i))) (length-state_of d (λ i. g (coordinate s i)));
    each = λ b c. let w = modest.inside b c in subst (λ x. x ≤ℤ b.most)
        (sym (difference-state_of d (λ i. g (coordinate s i)) b.high b.low w.high w.low)) (h b c);
  }

  -- the greatest difference isn't too great
  pub greatest-high : (k l : ℕ) → k ≤ d → l ≤ d → (c : ℤ) → IsGreatest (Meeting d free bs) k l (Some c)
      → c ≤ℤ pos (d * B)
  greatest-high k l hk hl c g = ⊎_elim (λ big. absurd (go big (gap-from (coordinate s) B d k hk))) (λ h. h)
      (lt_or_le (pos (d * B)) c)
    where
      s : State
      s = g.1.0

      z : Meeting d free bs s
      z = g.1.1

      e : difference s k l ≡ c
      e = g.1.2

      go : pos (d * B) <ℤ c → (u : ℤ) × (u ≤ℤ coordinate s k) × (coordinate s k ≤ℤ (u +ℤ pos (d * B))) × IsGap
          (coordinate s) B d u → ⊥
      go big r = clash (coordinate s k) (coordinate s l) (lift r.0 (coordinate s k))
          (lift r.0 (coordinate s l)) r.1 r.2 e (lift-cases r.0 (coordinate s k)) (lift-cases r.0 (coordinate s l))
          (subst (λ x. x ≤ℤ c) (difference-state_of d (λ i. lift r.0 (coordinate s i)) k l hk hl)
          (g.0 (state_of d (λ i. lift r.0 (coordinate s i)))
          (moved s z (lift r.0) (λ b cb. lift-meets r.0 (coordinate s b.high) (coordinate s b.low) b.most B
          (z.each b cb) (modest.high b cb) (r.3.far b.low (modest.inside b cb).low)))))
        where
          clash : (x y p q : ℤ) → r.0 ≤ℤ x → x ≤ℤ (r.0 +ℤ pos (d * B)) → x -ℤ y ≡ c
              → ((x <ℤ r.0) × (p ≡ x)) ⊎ ((r.0 ≤ℤ x) × (p ≡ x +ℤ pos 1))
              → ((y <ℤ r.0) × (q ≡ y)) ⊎ ((r.0 ≤ℤ y) × (q ≡ y +ℤ pos 1)) → (p -ℤ q) ≤ℤ c → ⊥
          clash x y p q a b e (inl m) n w = contra x r.0 a m.0
            where
              contra : (x u : ℤ) → u ≤ℤ x → x <ℤ u → ⊥
              contra x u a b = omega (arith, ints)
          clash x y p q a b e (inr m) (inl n) w = contra x y p q e m.1 n.1 w
            where
              contra : (x y p q : ℤ) → x -ℤ y ≡ c → p ≡ x +ℤ pos 1 → q ≡ y → (p -ℤ q) ≤ℤ c → ⊥
              contra x y p q e m n w = omega (arith, ints)
          clash x y p q a b e (inr m) (inr n) w = contra x y r.0 (d * B) b e n.0 big
            where
              contra : (x y u : ℤ) (D : ℕ) → x ≤ℤ (u +ℤ pos D) → x -ℤ y ≡ c → u ≤ℤ y → pos D <ℤ c → ⊥
              contra x y u D b e n big = omega (arith, ints)

  -- nor too small
  pub greatest-low : (k l : ℕ) → k ≤ d → l ≤ d → (c : ℤ) → IsGreatest (Meeting d free bs) k l (Some c)
      → neg_ℤ (pos (d * B)) ≤ℤ c
  greatest-low k l hk hl c g = ⊎_elim (λ small. absurd (go small (gap-from (coordinate s) B d l hl))) (λ h. h)
      (lt_or_le c (neg_ℤ (pos (d * B))))
    where
      s : State
      s = g.1.0

      z : Meeting d free bs s
      z = g.1.1

      e : difference s k l ≡ c
      e = g.1.2

      go : c <ℤ neg_ℤ (pos (d * B)) → (u : ℤ) × (u ≤ℤ coordinate s l) × (coordinate s l ≤ℤ (u +ℤ pos (d * B))) × IsGap
          (coordinate s) B d u → ⊥
      go small r = clash (coordinate s k) (coordinate s l) (sink r.0 (coordinate s k))
          (sink r.0 (coordinate s l)) r.1 r.2 e (sink-cases r.0 (coordinate s k)) (sink-cases r.0 (coordinate s l))
          (subst (λ x. x ≤ℤ c) (difference-state_of d (λ i. sink r.0 (coordinate s i)) k l hk hl)
          (g.0 (state_of d (λ i. sink r.0 (coordinate s i)))
          (moved s z (sink r.0) (λ b cb. sink-meets r.0 (coordinate s b.high) (coordinate s b.low) b.most B
          (z.each b cb) (modest.low b cb) (r.3.far b.high (modest.inside b cb).high)))))
        where
          clash : (x y p q : ℤ) → r.0 ≤ℤ y → y ≤ℤ (r.0 +ℤ pos (d * B)) → x -ℤ y ≡ c
              → ((x <ℤ r.0) × (p ≡ x)) ⊎ ((r.0 ≤ℤ x) × (p ≡ x -ℤ pos 1))
              → ((y <ℤ r.0) × (q ≡ y)) ⊎ ((r.0 ≤ℤ y) × (q ≡ y -ℤ pos 1)) → (p -ℤ q) ≤ℤ c → ⊥
          clash x y p q a b e (inl m) (inl n) w = contra y r.0 a n.0
            where
              contra : (x u : ℤ) → u ≤ℤ x → x <ℤ u → ⊥
              contra x u a b = omega (arith, ints)
          clash x y p q a b e (inl m) (inr n) w = contra x y p q e m.1 n.1 w
            where
              contra : (x y p q : ℤ) → x -ℤ y ≡ c → p ≡ x → q ≡ y -ℤ pos 1 → (p -ℤ q) ≤ℤ c → ⊥
              contra x y p q e m n w = omega (arith, ints)
          clash x y p q a b e (inr m) n w = contra x y r.0 (d * B) b e m.0 small
            where
              contra : (x y u : ℤ) (D : ℕ) → y ≤ℤ (u +ℤ pos D) → x -ℤ y ≡ c → u ≤ℤ x → c <ℤ neg_ℤ (pos D) → ⊥
              contra x y u D b e n small = omega (arith, ints)

  -- so no number of the closed matrix is
  pub closed-modest : (m : Matrix) → IsClosed d (Meeting d free bs) m → (k l : ℕ) → k ≤ d → l ≤ d → k ≢ l → (c : ℤ)
      → m k l ≡ Some c → (c ≤ℤ pos (d * B)) × (neg_ℤ (pos (d * B)) ≤ℤ c)
  closed-modest m closed k l hk hl n c e = let g : IsGreatest (Meeting d free bs) k l (Some c) =
      subst (λ b. IsGreatest (Meeting d free bs) k l b) e (closed.greatest k l hk hl n) in
      (greatest-high k l hk hl c g, greatest-low k l hk hl c g)

-- what closing gives is the closed matrix of the states that meet the limits
pub closing-closed : (d : ℕ) (bs : List Limit) (u : Matrix) → Closing d free bs u → IsClosed d (Meeting d free bs) u
closing-closed d bs u c = closed-same_set d (InZone d u) (Meeting d free bs) u c.meeting c.zone
    (shortest-closed d u c.shortest)
