-- An assignment from another coordinate is to forget, and two bounds more.
use Rattle.std.proofs.Common.{◌≡◌, ◌≢◌, ⊎_elim, ◌≤◌, ℕ, ℤ, ◌+ℤ◌, ◌-ℤ◌, neg_ℤ, ◌≤ℤ◌, sym, ap, subst, ◌∙◌, arith}
use Rattle.std.proofs.lemmas.Int.{ints}
use Rattle.prog_theory.specs.States.{State, Term, coordinate, value, changed}
use Rattle.zone_theory.specs.Matrices.{Matrix, InZone, difference}
use Rattle.zone_theory.specs.Shortest.{IsShortest}
use Rattle.zone_theory.specs.Adding.{added, Admits}
use Rattle.zone_theory.specs.Forgetting.{forgotten}
use Rattle.zone_theory.specs.Assigning.{assigned}
use Rattle.zone_theory.proofs.Closing.{shortest-closed, shortest-some}
use Rattle.zone_theory.proofs.Adding.{admits-decided, added-shortest, added-zone, zone-added, none-added}
use Rattle.zone_theory.proofs.Coordinates.{coordinate-changed_same, coordinate-changed_other}
use Rattle.zone_theory.proofs.Forgetting.{forgotten-shortest, forgotten-from, from-forgotten}
use Rattle.zone_theory.proofs.Assigning.{assigned-shortest, assigned-from, from-assigned}
use Rattle.zone_theory.proofs.Images.{values-same}

module _ (d : ℕ) (m : Matrix) (tight : IsShortest d m) (v : ℕ) (nz : v ≢ 0) (hv : v ≤ d) (r : Term) (hf : r.coord ≤ d)
    (other : r.coord ≢ v) where
  -- v is forgotten, and then bound from above
  pub above : Matrix
  above = added (forgotten m v) v r.coord r.add

  -- and from below
  pub twice : Matrix
  twice = added above r.coord v (neg_ℤ r.add)

  -- the states of the assignment are those that forgetting gives where the difference is right
  assigned-parts : (t : State) → InZone d (assigned m v r.coord r.add) t
      → InZone d (forgotten m v) t × (difference t v r.coord ≡ r.add)
  assigned-parts t z = go (from-assigned d m v nz hv r hf tight t z)
    where
      go : (s : State) × InZone d m s × (t ≡ changed s v (value r s))
          → InZone d (forgotten m v) t × (difference t v r.coord ≡ r.add)
      go q = (
        forgotten-from d m v q.0 t q.1 (value r q.0, q.2),
        subst (λ t. difference t v r.coord ≡ r.add) (sym q.2)
            (minus (coordinate (changed q.0 v (value r q.0)) v) (coordinate (changed q.0 v (value r q.0)) r.coord)
            (coordinate q.0 r.coord) (coordinate-changed_same q.0 v (value r q.0) nz
            (subst (λ n. v ≤ n) (sym q.1.size) hv)) (coordinate-changed_other q.0 v (value r q.0) r.coord other)),
      )
        where
          minus : (x y z : ℤ) → x ≡ z +ℤ r.add → y ≡ z → x -ℤ y ≡ r.add
          minus x y z p q = omega (arith, ints)

  parts-assigned : (t : State) → InZone d (forgotten m v) t → difference t v r.coord ≡ r.add
      → InZone d (assigned m v r.coord r.add) t
  parts-assigned t z e = go (from-forgotten d m v tight nz hv t z)
    where
      go : (s : State) × InZone d m s × ((w : ℤ) × (t ≡ changed s v w)) → InZone d (assigned m v r.coord r.add) t
      go q = assigned-from d m v nz hv r hf q.0 t q.1 (q.2.1
          ∙ ap (changed q.0 v) (right q.2.0 (coordinate t v) (coordinate t r.coord) (coordinate q.0 r.coord)
          (ap (λ t. coordinate t v) q.2.1 ∙ coordinate-changed_same q.0 v q.2.0 nz
          (subst (λ n. v ≤ n) (sym q.1.size) hv)) (ap (λ t. coordinate t r.coord) q.2.1
          ∙ coordinate-changed_other q.0 v q.2.0 r.coord other) e))
        where
          right : (w x y z : ℤ) → x ≡ w → y ≡ z → x -ℤ y ≡ r.add → w ≡ z +ℤ r.add
          right w x y z p q e = omega (arith, ints)

  -- some state is assigned
  witness : (t : State) × InZone d (assigned m v r.coord r.add) t
  witness = shortest-some d (assigned m v r.coord r.add) (assigned-shortest m v r.coord r.add d hf tight)

  forgotten_tight : IsShortest d (forgotten m v)
  forgotten_tight = forgotten-shortest d m v tight

  admits-above : Admits (forgotten m v) v r.coord r.add
  admits-above =
      ⊎_elim (λ h. h) (λ q. let w = assigned-parts witness.0 witness.1 in absurd
      (none-added d (forgotten m v) v r.coord hv hf r.add q.0 q.1 q.2 witness.0 w.0 (same_le _ _ w.1)))
      (admits-decided (forgotten m v) v r.coord r.add)
    where
      same_le : (x y : ℤ) → x ≡ y → x ≤ℤ y
      same_le x y e = omega (arith, ints)

  above-tight : IsShortest d above
  unfolding above
  above-tight = added-shortest d (forgotten m v) forgotten_tight v r.coord hv hf r.add admits-above

  assigned-above : (t : State) → InZone d (assigned m v r.coord r.add) t
      → InZone d above t × (difference t r.coord v ≤ℤ neg_ℤ r.add)
  unfolding above
  assigned-above t z = let w =
      assigned-parts t z in (
        zone-added d (forgotten m v) forgotten_tight v r.coord hv hf r.add admits-above t w.0
            (same_le (difference t v r.coord) w.1),
        opposite (coordinate t v) (coordinate t r.coord) w.1,
      )
    where
      same_le : (x : ℤ) → x ≡ r.add → x ≤ℤ r.add
      same_le x e = omega (arith, ints)

      opposite : (x y : ℤ) → x -ℤ y ≡ r.add → (y -ℤ x) ≤ℤ neg_ℤ r.add
      opposite x y e = omega (arith, ints)

  admits-twice : Admits above r.coord v (neg_ℤ r.add)
  admits-twice =
      ⊎_elim (λ h. h) (λ q. let w = assigned-above witness.0 witness.1 in absurd
      (none-added d above r.coord v hf hv (neg_ℤ r.add) q.0 q.1 q.2 witness.0 w.0 w.1))
      (admits-decided above r.coord v (neg_ℤ r.add))

  pub twice-shortest : IsShortest d twice
  unfolding twice
  twice-shortest = added-shortest d above above-tight r.coord v hf hv (neg_ℤ r.add) admits-twice

  pub assigned-twice : (t : State) → InZone d (assigned m v r.coord r.add) t → InZone d twice t
  unfolding twice
  assigned-twice t z = let w = assigned-above t z in zone-added d above above-tight r.coord v hf hv
      (neg_ℤ r.add) admits-twice t w.0 w.1

  pub twice-assigned : (t : State) → InZone d twice t → InZone d (assigned m v r.coord r.add) t
  unfolding twice above
  twice-assigned t z = let p = added-zone d above above-tight r.coord v hf hv (neg_ℤ r.add) admits-twice t z in let q =
      added-zone d (forgotten m v) forgotten_tight v r.coord hv hf r.add admits-above t p.0 in parts-assigned t q.0
      (exact (coordinate t v) (coordinate t r.coord) q.1 p.1)
    where
      exact : (x y : ℤ) → (x -ℤ y) ≤ℤ r.add → (y -ℤ x) ≤ℤ neg_ℤ r.add → x -ℤ y ≡ r.add
      exact x y p q = omega (arith, ints)

  -- both ways give the same bounds
  pub assigned-is_twice : (i j : ℕ) → i ≤ d → j ≤ d → i ≢ j → assigned m v r.coord r.add i j ≡ twice i j
  assigned-is_twice = values-same d (assigned m v r.coord r.add) twice
      (shortest-closed d (assigned m v r.coord r.add) (assigned-shortest m v r.coord r.add d hf tight))
      (shortest-closed d twice twice-shortest) assigned-twice twice-assigned
