-- All coordinates but one.
use Rattle.std.proofs.Common.{◌≡◌, ◌≢◌, ⊎_elim, ◌≤◌, ◌<◌, ℕ, zero, suc, ℤ, pos, ◌-ℤ◌, ◌≤ℤ◌, Bool, true, false, eqb, cond, List, [], ◌∷◌, length, refl, sym, ap, subst, ◌∙◌, arith, Contains}
use Rattle.std.proofs.lemmas.Bool.{eqb-true}
use Rattle.std.proofs.lemmas.Int.{ints}
use Rattle.prog_theory.specs.States.{State, coordinate}
use Rattle.prog_theory.proofs.Elements.{Contains-none, Contains-here, Contains-there, Contains-cases}
use Rattle.zone_theory.specs.Bounds.{IsAtMost}
use Rattle.zone_theory.specs.Matrices.{Matrix, InZone, entry, difference}
use Rattle.zone_theory.specs.Shortest.{IsShortest}
use Rattle.zone_theory.proofs.Entries.{same_or_apart, eqb_same}
use Rattle.zone_theory.proofs.Extending.{zone-extends}

-- the numbers below n but v
others : ℕ → ℕ → List ℕ
others v zero = []
others v (suc n) = cond (eqb n v) (others v n) (n ∷ others v n)

others-apart : (v n k : ℕ) → Contains (others v n) k → (k < n) × (k ≢ v)
unfolding others
others-apart v zero k h = absurd (Contains-none k h)
others-apart v (suc n) k h = go (others-apart v n k) (eqb n v) refl h
  where
    go : (Contains (others v n) k → (k < n) × (k ≢ v)) → (b : Bool) → eqb n v ≡ b
        → Contains (cond b (others v n) (n ∷ others v n)) k → (k < suc n) × (k ≢ v)
    go less true e h = let r = less h in let l : k < n = r.0 in (omega arith, r.1)
    go less false e h =
        ⊎_elim (λ q. (omega arith, λ w. false_true (sym e ∙ ap (λ x. eqb x v) (sym q ∙ w) ∙ eqb_same v)))
        (λ h. let r = less h in let l : k < n = r.0 in (omega arith, r.1)) (Contains-cases n (others v n) k h)
      where
        false_true : false ≡ true → ⊥
        false_true p = cc

Contains-others : (v n k : ℕ) → k < n → k ≢ v → Contains (others v n) k
unfolding others
Contains-others v zero k h ne = absurd (omega arith)
Contains-others v (suc n) k h ne = go (Contains-others v n k) (eqb n v) refl
  where
    go : (k < n → k ≢ v → Contains (others v n) k) → (b : Bool) → eqb n v ≡ b
        → Contains (cond b (others v n) (n ∷ others v n)) k
    go less true e = less (let q : n ≡ v = eqb-true n v e in omega (arith, ne)) ne
    go less false e = ⊎_elim (λ q. subst (λ x. Contains (n ∷ others v n) x) (sym q) (Contains-here n (others v n)))
        (λ q. Contains-there n (others v n) k (less (omega (arith, q)) ne)) (same_or_apart k n)

-- states with equal coordinates are equal
pub state-same : (s t : State) → length s ≡ length t → ((i : ℕ) → i ≤ length s → coordinate s i ≡ coordinate t i)
    → s ≡ t
state-same [] [] e h = refl
state-same [] (y ∷ t) e h = absurd (omega arith)
state-same (x ∷ s) [] e h = absurd (omega arith)
state-same (x ∷ s) (y ∷ t) e h = let p : x ≡ y = h 1 (omega arith) in let q : s ≡ t =
    state-same s t (omega arith) rest in cc
  where
    rest : (i : ℕ) → i ≤ length s → coordinate s i ≡ coordinate t i
    rest zero l = refl
    rest (suc i) l = h (suc (suc i)) (omega arith)

-- A state that keeps the bounds between coordinates other than v has the coordinates, but for v, of a state of the
-- zone.
pub others-extend : (d : ℕ) (m : Matrix) → IsShortest d m → (v : ℕ) → v ≢ 0 → (t : State)
    → ((i j : ℕ) → i ≤ d → j ≤ d → i ≢ v → j ≢ v → (a : ℤ) → IsAtMost (entry m i j) a → difference t i j ≤ℤ a)
    → (s : State) × InZone d m s × ((i : ℕ) → i ≤ d → i ≢ v → coordinate s i ≡ coordinate t i)
others-extend d m tight v nz t h =
    go (zone-extends d m tight K (coordinate t) (record { within = within; keeps = keeps }))
  where
    K : List ℕ
    K = others v (suc d)

    within : (i : ℕ) → Contains K i → i ≤ d
    within i c = let l : i < suc d = (others-apart v (suc d) i c).0 in omega arith

    keeps : (i j : ℕ) → Contains K i → Contains K j → (a : ℤ) → IsAtMost (entry m i j) a
        → (coordinate t i -ℤ coordinate t j) ≤ℤ a
    keeps i j ci cj a k = h i j (within i ci) (within j cj) (others-apart v (suc d) i ci).1
        (others-apart v (suc d) j cj).1 a k

    has : (i : ℕ) → i ≤ d → i ≢ v → Contains K i
    has i l n = Contains-others v (suc d) i (omega arith) n

    go : ((s : State) × InZone d m s × ((i j : ℕ) → Contains K i → Contains K j
        → difference s i j ≡ coordinate t i -ℤ coordinate t j))
        → (s : State) × InZone d m s × ((i : ℕ) → i ≤ d → i ≢ v → coordinate s i ≡ coordinate t i)
    go r = (r.0, r.1, λ i l n. minus_zero (r.2 i 0 (has i l n) (has 0 (omega arith) (λ e. nz (sym e)))))
      where
        minus_zero : {x y : ℤ} → x -ℤ pos 0 ≡ y -ℤ pos 0 → x ≡ y
        minus_zero e = omega (arith, ints)
