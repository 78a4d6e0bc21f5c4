-- The inequalities of a matrix are true at the vector of a state exactly where the state is in the zone.
-- Index: length-vector, true-meets, meets-true, zone-solves, solves-zone.
use Rattle.std.proofs.Common.{◌≡◌, ◌≢◌, ⊎_elim, ◌≤◌, ◌<◌, ℕ, zero, suc, ℤ, pos, ◌+ℤ◌, ◌-ℤ◌, ◌≤ℤ◌, false, replicate, length, get_or, Option, Some, None, sym, ap, subst, ◌∙◌, arith, Contains, get_or-set_same, get_or-set_other}
use Rattle.std.proofs.lemmas.Int.{ints}
use Rattle.std.proofs.lemmas.List.{length-map, length-replicate, get_or-replicate, get_or-map, get_or_default}
use Rattle.std.proofs.lemmas.List.Elements.{All-map, All-get_or, All-from_get_or}
use Rattle.trop_theory.specs.Semiring.{Semiring, SemiringLaws, Le}
use Rattle.trop_theory.specs.Numbers.{Numbering, NumberLaws, NumericLaws}
use Rattle.trop_theory.specs.Vectors.{entry}
use Rattle.trop_theory.specs.Inequalities.{IsTrueAt, Solves}
use Rattle.trop_theory.proofs.Order.{below_zero}
use Rattle.prog_theory.specs.States.{State, coordinate}
use Rattle.cone_reports.specs.Vectors.{vector}
use Rattle.zone_theory.specs.Matrices.{Matrix, InZone}
use Rattle.zone_theory.specs.Limits.{Limit, Meets, IsIn, limits}
use Rattle.zone_theory.specs.Embedding.{single, inequality, system}
use Rattle.zone_theory.proofs.Entries.{same_or_apart}
use Rattle.zone_theory.proofs.MatrixCloses.{limits-in, limits-zone, zone-limits}

pub length-vector : {V : Type 0} (R : Semiring V) (N : Numbering V) (s : State) → length (vector R N s) ≡ suc (length s)
length-vector R N s = ap suc (length-map s N.of)

single-at : {V : Type 0} (R : Semiring V) (n k : ℕ) (a : V) → k < n → entry R (single R n k a) k ≡ a
single-at R n k a h = get_or-set_same (replicate n R.zero) k a R.zero
    (subst (λ l. k < l) (sym (length-replicate n R.zero)) h)

single-other : {V : Type 0} (R : Semiring V) (n k : ℕ) (a : V) (i : ℕ) → i < n → i ≢ k
    → entry R (single R n k a) i ≡ R.zero
single-other R n k a i h ne = get_or-set_other (replicate n R.zero) k i a R.zero ne
    ∙ get_or-replicate n i R.zero R.zero h

some_none : (z : ℤ) → ◌≡◌ {A = Option ℤ} (Some z) None → ⊥
some_none z e = cc

module _ {V : Type 0} (R : Semiring V) (N : Numbering V) (laws : SemiringLaws R) (numbers : NumberLaws R N)
    (numeric : NumericLaws R N false) where
  -- each entry of a state's vector is the number of the coordinate
  entry-vector : (s : State) (i : ℕ) → i ≤ length s → N.to (entry R (vector R N s) i) ≡ Some (coordinate s i)
  entry-vector s zero h = numeric.to-one
  entry-vector s (suc i) h = ap N.to (get_or-map N.of s i (pos 0) R.zero (omega arith))
      ∙ numeric.to-of (coordinate s (suc i))

  -- the products of both sides
  high-product : (s : State) (b : Limit) → b.high ≤ length s
      → N.to (R.times (entry R (single R (suc (length s)) b.high R.one) b.high) (entry R (vector R N s) b.high)) ≡ Some
      (pos 0 +ℤ coordinate s b.high)
  high-product s b h = numeric.to-times (entry R (single R (suc (length s)) b.high R.one) b.high)
      (entry R (vector R N s) b.high) (pos 0) (coordinate s b.high)
      (ap N.to (single-at R (suc (length s)) b.high R.one (omega arith)) ∙ numeric.to-one) (entry-vector s b.high h)

  low-product : (s : State) (b : Limit) → b.low ≤ length s
      → N.to (R.times (entry R (single R (suc (length s)) b.low (N.of b.most)) b.low) (entry R (vector R N s) b.low)) ≡
      Some (b.most +ℤ coordinate s b.low)
  low-product s b h = numeric.to-times (entry R (single R (suc (length s)) b.low (N.of b.most)) b.low)
      (entry R (vector R N s) b.low) b.most (coordinate s b.low)
      (ap N.to (single-at R (suc (length s)) b.low (N.of b.most) (omega arith)) ∙ numeric.to-of b.most)
      (entry-vector s b.low h)

  -- the inequality of a limit is true exactly where the state meets it
  pub true-meets : (s : State) (b : Limit) → IsIn (length s) b
      → IsTrueAt R (inequality R N (suc (length s)) b) (vector R N s) → Meets b s
  true-meets s b inside t =
      go (t b.high (subst (λ l. b.high < l) (sym (length-vector R N s))
      (let h : b.high ≤ length s = inside.high in omega arith)))
    where
      x : ℕ → V
      x i = entry R (vector R N s) i

      left : V
      left = R.times (entry R (single R (suc (length s)) b.high R.one) b.high) (x b.high)

      term : ℕ → V
      term j = R.times (entry R (single R (suc (length s)) b.low (N.of b.most)) j) (x j)

      go : (j : ℕ) × (j < length (vector R N s)) × Le R left (term j) → Meets b s
      go r = ⊎_elim at_low other (same_or_apart r.0 b.low)
        where
          at_low : r.0 ≡ b.low → Meets b s
          at_low e = less (coordinate s b.high) (coordinate s b.low) b.most
              ((numeric.order left (term b.low) (pos 0 +ℤ coordinate s b.high) (b.most +ℤ coordinate s b.low)
              (high-product s b inside.high) (low-product s b inside.low)).1 (subst (λ j. Le R left (term j)) e r.2))
            where
              less : (x y c : ℤ) → (pos 0 +ℤ x) ≤ℤ (c +ℤ y) → (x -ℤ y) ≤ℤ c
              less x y c h = omega (arith, ints)

          other : r.0 ≢ b.low → Meets b s
          other ne =
              absurd (some_none (pos 0 +ℤ coordinate s b.high)
              (sym (high-product s b inside.high) ∙ (numbers.none left).1
              (below_zero laws left (subst (λ y. Le R left y) zero_term r.2))))
            where
              zero_term : term r.0 ≡ R.zero
              zero_term =
                  ap (λ y. R.times y (x r.0)) (single-other R (suc (length s)) b.low (N.of b.most) r.0
                  (subst (λ l. r.0 < l) (length-vector R N s) r.1) ne) ∙ laws.zero_absorbs (x r.0)

  pub meets-true : (s : State) (b : Limit) → IsIn (length s) b → Meets b s
      → IsTrueAt R (inequality R N (suc (length s)) b) (vector R N s)
  meets-true s b inside h i hi = (
    b.low,
    subst (λ l. b.low < l) (sym (length-vector R N s))
        (let q : b.low ≤ length s = inside.low in omega arith),
    ⊎_elim at_high other (same_or_apart i b.high),
  )
    where
      x : ℕ → V
      x i = entry R (vector R N s) i

      left : ℕ → V
      left i = R.times (entry R (single R (suc (length s)) b.high R.one) i) (x i)

      right : V
      right = R.times (entry R (single R (suc (length s)) b.low (N.of b.most)) b.low) (x b.low)

      at_high : i ≡ b.high → Le R (left i) right
      at_high e = subst (λ i. Le R (left i) right) (sym e)
          ((numeric.order (left b.high) right (pos 0 +ℤ coordinate s b.high) (b.most +ℤ coordinate s b.low)
          (high-product s b inside.high) (low-product s b inside.low)).0
          (more (coordinate s b.high) (coordinate s b.low) b.most h))
        where
          more : (x y c : ℤ) → (x -ℤ y) ≤ℤ c → (pos 0 +ℤ x) ≤ℤ (c +ℤ y)
          more x y c h = omega (arith, ints)

      other : i ≢ b.high → Le R (left i) right
      other ne =
          subst (λ y. Le R y right)
          (sym (ap (λ y. R.times y (x i)) (single-other R (suc (length s)) b.high R.one i
          (subst (λ l. i < l) (length-vector R N s) hi) ne) ∙ laws.zero_absorbs (x i))) (laws.zero_neutral right)

  -- all are true exactly where the state is in the zone
  pub zone-solves : (d : ℕ) (m : Matrix) (s : State) → InZone d m s → Solves R (suc d) (system R N d m) (vector R N s)
  zone-solves d m s z = record {
    wide = length-vector R N s ∙ ap suc z.size;
    holds = All-map (λ p. IsTrueAt R p (vector R N s)) (inequality R N (suc d)) (limits d m)
        (All-from_get_or (λ b. IsTrueAt R (inequality R N (suc d) b) (vector R N s)) (limits d m) default each);
  }
    where
      default : Limit
      default = record { high = 0; low = 0; most = pos 0 }

      one : (b : Limit) → Contains (limits d m) b → IsTrueAt R (inequality R N (suc d) b) (vector R N s)
      one b c = subst (λ n. IsTrueAt R (inequality R N (suc n) b) (vector R N s)) z.size
          (meets-true s b (subst (λ n. IsIn n b) (sym z.size) (limits-in d m b c)) (zone-limits d m s z b c))

      each : (i : ℕ) → i < length (limits d m) → IsTrueAt R (inequality R N (suc d) (get_or (limits d m) i default))
          (vector R N s)
      each i h =
          one (get_or (limits d m) i default) (
            i,
            h,
            get_or_default (limits d m) i
                (get_or (limits d m) i default) default h,
          )

  pub solves-zone : (d : ℕ) (m : Matrix) (s : State) → length s ≡ d → Solves R (suc d) (system R N d m) (vector R N s)
      → InZone d m s
  solves-zone d m s e h =
      limits-zone d m s e (λ b c. true-meets s b (subst (λ n. IsIn n b) (sym e) (limits-in d m b c))
      (subst (λ n. IsTrueAt R (inequality R N (suc n) b) (vector R N s)) (sym e) (at b c)))
    where
      at : (b : Limit) → Contains (limits d m) b → IsTrueAt R (inequality R N (suc d) b) (vector R N s)
      at b c = subst (λ p. IsTrueAt R p (vector R N s))
          (get_or-map (inequality R N (suc d)) (limits d m) c.0 b (inequality R N (suc d) b) c.1
          ∙ ap (inequality R N (suc d)) c.2) (All-get_or (λ p. IsTrueAt R p (vector R N s)) (system R N d m) c.0
          (inequality R N (suc d) b) (subst (λ l. c.0 < l)
          (sym (length-map (limits d m) (inequality R N (suc d)))) c.1) h.holds)
