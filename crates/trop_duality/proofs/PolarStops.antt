-- The pairs of a coordinate and a number of rows, one after another, up to the first that is refused.
-- Index: NoneBefore, none_before_first, none_before_more, none_before_next, none_before_empty, none_before_rows,
-- none_before_through, IsPolarStop-from, IsPolarStop-polar, no_stop_from_none, IsPolarStop-unique, list_over_is_long,
-- IsPolarStop-list, polars_within, polar_over_from_stop.
use Rattle.std.proofs.Common.{◌≡◌, ◌<◌, ◌≤◌, ◌+◌, ℕ, zero, suc, List, [], ◌∷◌, length, take, inl, inr, ⊎_elim, sym, ap, ◌∙◌, refl, arith, subst}
use Rattle.std.specs.Prelude.{All, ◌↔◌}
use Rattle.std.proofs.lemmas.Bool.{cases_lt}
use Rattle.std.proofs.lemmas.List.{length-map}
use Rattle.trop_theory.specs.Semiring.{Semiring, SemiringLaws}
use Rattle.trop_theory.specs.Inequalities.{Inequality, Solves}
use Rattle.trop_theory.specs.Combinations.{IsCombination}
use Rattle.trop_theory.specs.Canonical.{row_limit, IsOverLimit}
use Rattle.trop_duality.specs.Polars.{polar_inequality, polar_system}
use Rattle.trop_cones.specs.RowStops.{IsRowsStop}
use Rattle.trop_duality.specs.External.{IsExternalUpTo}
use Rattle.trop_duality.specs.PolarStops.{IsPolarOver, IsListOver, IsRefused, IsPair, IsEarlier, IsPolarStop}
use Rattle.trop_duality.proofs.Polars.{polar_over_is_first_over}
use Rattle.trop_cones.proofs.Generated.{over_needs_one}
use Rattle.trop_duality.proofs.Bottom.{bottom_list_within}
use Rattle.trop_duality.proofs.External.{IsExternalUpTo-unique}

module _ {V : Type 0} (R : Semiring V) (n : ℕ) (rows : List (List V)) where
  -- no pair before (i, k) is refused
  abbrev pub NoneBefore : ℕ → ℕ → Type 0
  NoneBefore i k = (j l : ℕ) → IsPair n rows j l → IsEarlier j l i k → IsRefused R n rows j l → ⊥

  pub none_before_first : NoneBefore 0 1
  none_before_first j l pair e r = ⊎_elim (λ q. let s = pair.some in absurd (omega arith))
      (λ q. let s = pair.some in absurd (omega (arith, q.1))) e

  -- the next number of rows
  pub none_before_more : (i k : ℕ) → NoneBefore i k → k < length rows → (IsPolarOver R n rows i k → ⊥) →
      NoneBefore i (k + 1)
  none_before_more i k none l h j m pair e r = ⊎_elim
      (λ q. none j m pair (inl q) r)
      (λ q. ⊎_elim
      (λ s. none j m pair (inr (q.0, s)) r)
      (λ s.
      let same : m ≡ k = omega (arith, q.1) in
      let at : IsRefused R n rows i k = subst (λ a. IsRefused R n rows i a) same
      (subst (λ a. IsRefused R n rows a m) q.0 r) in
      ⊎_elim h (λ p. absurd (omega (arith, p.0))) at)
      (cases_lt m k))
      e

  -- the next coordinate, once all rows are taken
  pub none_before_next : (i : ℕ) → NoneBefore i (length rows) → (IsPolarOver R n rows i (length rows) → ⊥) →
      (IsListOver R n rows i → ⊥) → NoneBefore (i + 1) 1
  none_before_next i none h g j m pair e r = ⊎_elim
      (λ q. ⊎_elim
      (λ s. none j m pair (inl s) r)
      (λ s.
      let same : j ≡ i = omega arith in
      let at : IsRefused R n rows i m = subst (λ a. IsRefused R n rows a m) same r in
      ⊎_elim
      (λ t. none j m pair (inr (same, t)) r)
      (λ t.
      let all : m ≡ length rows = omega (arith, pair.within) in
      ⊎_elim h (λ p. g p.1) (subst (λ a. IsRefused R n rows i a) all at))
      (cases_lt m (length rows)))
      (cases_lt j i))
      (λ q. let s = pair.some in absurd (omega (arith, q.1)))
      e

  -- without rows there is no pair
  pub none_before_empty : (i k : ℕ) → length rows ≡ 0 → NoneBefore i k
  none_before_empty i k l j m pair e r = let s = pair.some in let t = pair.within in omega arith

  -- all numbers of rows below k at once
  pub none_before_rows : (i : ℕ) → NoneBefore i 1 → (k : ℕ) → 1 ≤ k → k ≤ length rows →
      ((l : ℕ) → 1 ≤ l → l < k → IsPolarOver R n rows i l → ⊥) → NoneBefore i k
  none_before_rows i none zero p q h = absurd (omega arith)
  none_before_rows i none (suc zero) p q h = none
  none_before_rows i none (suc (suc k)) p q h =
      let e : suc k + 1 ≡ suc (suc k) = omega arith in
      subst (NoneBefore i) e (none_before_more i (suc k)
      (none_before_rows i none (suc k) (omega arith) (omega arith) (λ l a b. h l a (omega arith))) (omega arith)
      (h (suc k) (omega arith) (omega arith)))

  -- a whole coordinate at once
  pub none_before_through : (i : ℕ) → NoneBefore i 1 →
      ((l : ℕ) → 1 ≤ l → l ≤ length rows → IsPolarOver R n rows i l → ⊥) → (IsListOver R n rows i → ⊥) →
      NoneBefore (i + 1) 1
  none_before_through i none h g = ⊎_elim
      (λ l. none_before_empty (i + 1) 1 (omega arith))
      (λ l. none_before_next i (none_before_rows i none (length rows) l (omega arith) (λ m a b. h m a (omega arith)))
      (h (length rows) l (omega arith)) g)
      (cases_lt (length rows) 1)

  pub IsPolarStop-from : (i k : ℕ) → NoneBefore i k → IsPair n rows i k → IsRefused R n rows i k →
      IsPolarStop R n rows i k
  IsPolarStop-from i k none pair r = record { pair = pair; refused = r; first = none }

  -- the stop at a polar
  pub IsPolarStop-polar : (i k : ℕ) → NoneBefore i 1 → i < n → 1 ≤ k → k ≤ length rows → IsPolarOver R n rows i k →
      ((l : ℕ) → l < k → IsPolarOver R n rows i l → ⊥) → IsPolarStop R n rows i k
  IsPolarStop-polar i k none p q r over least =
      IsPolarStop-from i k (none_before_rows i none k q r (λ l a b. least l b))
      (record { coordinate = p; some = q; within = r }) (inl over)

  -- where no pair is refused there is no stop
  pub no_stop_from_none : (k : ℕ) → NoneBefore n k → (i l : ℕ) → IsPolarStop R n rows i l → ⊥
  no_stop_from_none k none i l stop = none i l stop.pair (inl stop.pair.coordinate) stop.refused

  -- there is one stop at most
  pub IsPolarStop-unique : (i k j l : ℕ) → IsPolarStop R n rows i k → IsPolarStop R n rows j l → (i ≡ j) × (k ≡ l)
  IsPolarStop-unique i k j l h g = (same_place, same_number)
    where
      same_place : i ≡ j
      same_place = ⊎_elim
          (λ a. absurd (g.first i k h.pair (inl a) h.refused))
          (λ a. ⊎_elim (λ b. absurd (h.first j l g.pair (inl b) g.refused)) (λ b. omega arith) (cases_lt j i))
          (cases_lt i j)

      same_number : k ≡ l
      same_number = ⊎_elim
          (λ a. absurd (g.first i k h.pair (inr (same_place, a)) h.refused))
          (λ a. ⊎_elim (λ b. absurd (h.first j l g.pair (inr (sym same_place, b)) g.refused)) (λ b. omega arith)
          (cases_lt l k))
          (cases_lt k l)

module _ {V : Type 0} {R : Semiring V} (laws : SemiringLaws R) (n : ℕ) (rows : List (List V)) where
  -- the count of the list tells
  pub list_over_is_long : (i : ℕ) (bounds : List (Inequality V)) →
      IsExternalUpTo R n (IsCombination R n rows) (suc i) bounds → IsListOver R n rows i ↔ (row_limit < length bounds)
  list_over_is_long i bounds h = (
    λ o. subst (λ b. row_limit < length b) (IsExternalUpTo-unique laws n (IsCombination R n rows)
        (suc i) o.bounds bounds o.up_to h) o.many,
    λ l. record { bounds = bounds; up_to = h; many = l },
  )

  -- a list over the limit has rows
  list_over_needs_one : n ≤ row_limit → (i : ℕ) → i < n → IsListOver R n rows i → 1 ≤ length rows
  list_over_needs_one few i l over = ⊎_elim
      (λ z. absurd (bottom_list_within laws n few i l
      (subst (λ r. IsListOver R n r i) (length_zero rows (omega arith)) over)))
      (λ h. h)
      (cases_lt (length rows) 1)
    where
      length_zero : (xs : List (List V)) → length xs ≡ 0 → xs ≡ []
      length_zero [] e = refl
      length_zero (x ∷ xs) e = absurd (omega arith)

  -- the stop at the count of the list
  pub IsPolarStop-list : n ≤ row_limit → (i : ℕ) → NoneBefore R n rows i 1 → i < n →
      ((l : ℕ) → l ≤ length rows → IsPolarOver R n rows i l → ⊥) → IsListOver R n rows i →
      IsPolarStop R n rows i (length rows)
  IsPolarStop-list few i none p within over =
      let some : 1 ≤ length rows = list_over_needs_one few i p over in
      IsPolarStop-from R n rows i (length rows) (none_before_rows R n rows i none (length rows) some (omega arith)
      (λ l a b. within l (omega arith))) (record { coordinate = p; some = some; within = omega arith })
      (inr (refl, over))

module _ {V : Type 0} {R : Semiring V} (laws : SemiringLaws R) (n : ℕ) (rows : List (List V))
    (w : All (λ g. length g ≡ n) rows) (i : ℕ) (system : List (Inequality V))
    (same : system ≡ polar_system R i rows) where
  same_length : length system ≡ length rows
  same_length = ap length same ∙ length-map rows (polar_inequality R i)

  over_there : (k : ℕ) → IsPolarOver R n rows i k → IsOverLimit R (Solves R n (take k system))
  over_there k h = subst (λ s. IsOverLimit R (Solves R n (take k s))) (sym same)
      ((polar_over_is_first_over laws n i k rows w).0 h)

  over_back : (k : ℕ) → IsOverLimit R (Solves R n (take k system)) → IsPolarOver R n rows i k
  over_back k h = (polar_over_is_first_over laws n i k rows w).1
      (subst (λ s. IsOverLimit R (Solves R n (take k s))) same h)

  -- a polar system whose fronts are all within the limit
  pub polars_within : ((j : ℕ) → j ≤ length system → IsOverLimit R (Solves R n (take j system)) → ⊥) → (k : ℕ) →
      k ≤ length rows → IsPolarOver R n rows i k → ⊥
  polars_within h k l over = h k (omega (arith, same_length)) (over_there k over)

  -- the least front of a polar system over the limit
  pub polar_over_from_stop : n ≤ row_limit → (k : ℕ) → IsRowsStop R n system k →
      (1 ≤ k) × (k ≤ length rows) × IsPolarOver R n rows i k × ((l : ℕ) → l < k → IsPolarOver R n rows i l → ⊥)
  polar_over_from_stop few k h = (
    over_needs_one laws n few k system h.over,
    omega (arith, same_length, h.within),
    over_back k h.over,
    λ l lt over. h.least l lt (over_there l over),
  )
