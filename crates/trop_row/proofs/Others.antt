-- Rows but one.
use Rattle.std.proofs.Common.{true, ◌≡◌, ◌≢◌, ◌⊎◌, ◌<◌, ◌≤◌, ◌+◌, ◌-◌, ◌++◌, ℕ, zero, suc, List, [], ◌∷◌, length, take, drop, get_or, inl, inr, sym, ap, ◌∙◌, refl, arith, subst, ⊎_elim, add-one, true≢false}
use Rattle.std.specs.Prelude.{◌↔◌, Option, None, Some, IfSome, MatchOption, is_some, Any, remove}
use Rattle.std.proofs.lemmas.List.{get_or_past, get_or_append_left, length-append, take_rest}
use Rattle.std.proofs.lemmas.Bool.{cases_lt}
use Rattle.trop_theory.specs.Semiring.{Semiring, SemiringLaws}
use Rattle.trop_theory.specs.Vectors.{entry, AreWide}
use Rattle.trop_theory.specs.Combinations.{IsCombination}
use Rattle.trop_theory.specs.Residual.{Meets}
use Rattle.trop_theory.proofs.Residual.{IsCombination_from_met}
use Rattle.plain_lemmas.proofs.Lists.{Any-cons}

module _ {X : Type 0} (P : X → Type 0) where
  any_left : (xs ys : List X) → Any P xs → Any P (xs ++ ys)
  any_left xs ys h = (
    h.0,
    h.1,
    omega (arith, length-append xs ys, h.2),
    get_or_append_left xs ys h.1 h.0 h.2 ∙
        h.3,
    h.4,
  )

  any_right : (xs ys : List X) → Any P ys → Any P (xs ++ ys)
  any_right [] ys h = h
  any_right (x ∷ xs) ys h = Any-cons P x (xs ++ ys) (any_right xs ys h)

  any_cases : (xs ys : List X) → Any P (xs ++ ys) → (Any P xs) ⊎ (Any P ys)
  any_cases [] ys h = inr h
  any_cases (x ∷ xs) ys h = go h.0 h.1 h.2 h.3 h.4 (λ k. any_cases xs ys k)
    where
      go : (k : ℕ) (y : X) → k < length (x ∷ (xs ++ ys)) → get_or (x ∷ (xs ++ ys)) k y ≡ y → P y →
          (Any P (xs ++ ys) → (Any P xs) ⊎ (Any P ys)) → (Any P (x ∷ xs)) ⊎ (Any P ys)
      go zero y l e p more = inl (0, y, omega arith, e, p)
      go (suc k) y l e p more = ⊎_elim (λ a. inl (Any-cons P x xs a)) (λ b. inr b) (more (k, y, omega arith, e, p))

  -- at the front, as `&xs[..k]`, or behind, as `&xs[k + 1..]`
  pub any_front : (xs : List X) (k : ℕ) → Any P (take k xs) → Any P (remove xs k)
  any_front xs k h = any_left (take k xs) (drop (suc k) xs) h

  pub any_behind : (xs : List X) (k : ℕ) → Any P (take (length xs - (k + 1)) (drop (k + 1) xs)) → Any P (remove xs k)
  any_behind xs k h = any_right (take k xs) (drop (suc k) xs)
      (subst (λ v. Any P v) (take_rest xs (k + 1) ∙ ap (λ j. drop j xs) (add-one k)) h)

  -- at any place but k
  pub any_other : (xs : List X) (k i : ℕ) (x : X) → i ≢ k → i < length xs → x ≡ get_or xs i x → P x →
      Any P (remove xs k)
  any_other [] k i x ne l e p = absurd (omega arith)
  any_other (y ∷ xs) zero zero x ne l e p = absurd (ne refl)
  any_other (y ∷ xs) zero (suc i) x ne l e p = (i, x, omega arith, sym e, p)
  any_other (y ∷ xs) (suc k) zero x ne l e p = (0, x, omega arith, sym e, p)
  any_other (y ∷ xs) (suc k) (suc i) x ne l e p =
      Any-cons P y (remove xs k) (any_other xs k i x (λ q. ne (ap suc q)) (omega arith) e p)

  -- at a place whatever is read past the end
  pub any_place : (xs : List X) (i : ℕ) → i < length xs → ((d : X) → P (get_or xs i d)) → Any P xs
  any_place [] i l p = absurd (omega arith)
  any_place (y ∷ xs) zero l p = (0, y, omega arith, refl, p y)
  any_place (y ∷ xs) (suc i) l p = Any-cons P y xs (any_place xs i (omega arith) p)

  pub any_neither : (xs : List X) (k : ℕ) → (Any P (take k xs) → ⊥) →
      (Any P (take (length xs - (k + 1)) (drop (k + 1) xs)) → ⊥) → Any P (remove xs k) → ⊥
  any_neither xs k f b h = ⊎_elim f (λ q. b (subst (λ v. Any P v)
      (sym (take_rest xs (k + 1) ∙ ap (λ j. drop j xs) (add-one k))) q)) (any_cases (take k xs) (drop (suc k) xs) h)

  -- what a search for a place found
  pub any_found : (xs : List X) (found : Option ℕ) → IfSome found (λ i. i < length xs) →
      MatchOption found (Any P xs → ⊥) (λ i. (d : X) → P (get_or xs i d)) → (is_some found ≡ true) ↔ Any P xs
  any_found xs None l h = (λ e. absurd (true≢false (sym e)), λ a. absurd (h a))
  any_found xs (Some i) l h = (λ _. any_place xs i l h, λ _. refl)

  -- and where it was the front that was searched, and none is behind
  pub any_found_front : (xs : List X) (k : ℕ) (found : Option ℕ) → IfSome found (λ i. i < length (take k xs)) →
      MatchOption found (Any P (take k xs) → ⊥) (λ i. (d : X) → P (get_or (take k xs) i d)) →
      (Any P (take (length xs - (k + 1)) (drop (k + 1) xs)) → ⊥) →
      MatchOption found (Any P (remove xs k) → ⊥) (λ _. Any P (remove xs k))
  any_found_front xs k None l h b = any_neither xs k h b
  any_found_front xs k (Some i) l h b = any_front xs k (any_place (take k xs) i l h)

-- all entries were met
pub all_met_in : {V : Type 0} {R : Semiring V} (laws : SemiringLaws R) (n : ℕ) (rows : List (List V)) (x : List V)
    (i : ℕ) → AreWide n rows → length x ≡ n → length x ≤ i → ((k : ℕ) → k < i → entry R x k ≢ R.zero →
    Any (Meets R x k) rows) → IsCombination R n rows x
all_met_in {V} {R} laws n rows x i w e far h =
    IsCombination_from_met laws n rows x w e (λ t f. ⊎_elim (λ q. h t q f)
    (λ q. absurd (f (get_or_past x t R.zero (omega arith)))) (cases_lt t i))
