-- Searches through a list, one element after another.
use Rattle.std.proofs.Common.{◌≡◌, ◌<◌, ◌≤◌, ◌+◌, ⊎_elim, ℕ, zero, suc, true, false, List, [], ◌∷◌, length, get_or, Option, Some, None, refl, sym, subst, arith, true≢false}
use Rattle.std.specs.Prelude.{All, Any, IsTrue, ◌↔◌, slice_get}
use Rattle.std.proofs.lemmas.Bool.{cases_lt}
use Rattle.std.proofs.lemmas.Option.{slice_get_within}

-- what holds of each element before a place, and of none
abbrev pub EachTo : {X : Type 0} → (X → Type 0) → List X → ℕ → Type 0
EachTo P xs k = (j : ℕ) (d : _) → j < k → j < length xs → P (get_or xs j d)

abbrev pub NoneTo : {X : Type 0} → (X → Type 0) → List X → ℕ → Type 0
NoneTo P xs k = (j : ℕ) (d : _) → j < k → j < length xs → P (get_or xs j d) → ⊥

read : {X : Type 0} (xs : List X) (k : ℕ) (x d : X) → slice_get xs k ≡ Some x → get_or xs k d ≡ x
read [] k x d e = absurd (let f : ◌≡◌ {A = Option _} None (Some x) = e in cc)
read (y ∷ xs) zero x d e = cc
read (y ∷ xs) (suc k) x d e = read xs k x d e

module _ {X : Type 0} (P : X → Type 0) (xs : List X) (k : ℕ) (x : X) (is : slice_get xs k ≡ Some x) where
  pub each-more : EachTo P xs k → P x → EachTo P xs (k + 1)
  each-more before here = λ j d m l. ⊎_elim
      (λ lt. before j d lt l)
      (λ le. let same : k ≡ j = omega (arith, le, m) in
      subst (λ i. P (get_or xs i d)) same (subst P (sym (read xs k x d is)) here))
      (cases_lt j k)

  pub none-more : NoneTo P xs k → (P x → ⊥) → NoneTo P xs (k + 1)
  none-more before here = λ j d m l p. ⊎_elim
      (λ lt. before j d lt l p)
      (λ le. let same : k ≡ j = omega (arith, le, m) in
      here (subst P (read xs k x d is) (subst (λ i. P (get_or xs i d)) (sym same) p)))
      (cases_lt j k)

  pub not-each : (P x → ⊥) → IsTrue false ↔ All P xs
  not-each fails = (
    λ f. absurd (true≢false (sym f)),
    λ h. absurd (fails (subst P (read xs k x x is) (h k x (slice_get_within xs k x is)))),
  )

  pub one-found : P x → IsTrue true ↔ Any P xs
  one-found here = (
    λ f. (k, x, slice_get_within xs k x is, read xs k x x is, here),
    λ h. refl,
  )

module _ {X : Type 0} (P : X → Type 0) (xs : List X) (k : ℕ) (past : length xs ≤ k) where
  pub each-all : EachTo P xs k → IsTrue true ↔ All P xs
  each-all each = (λ f. (λ j d l. each j d (omega (arith, l, past)) l), λ h. refl)

  pub none-found : NoneTo P xs k → IsTrue false ↔ Any P xs
  none-found none = (
    λ f. absurd (true≢false (sym f)),
    λ h. absurd (none h.0 h.1 (omega (arith, h.2, past)) h.2 (subst P (sym h.3) h.4)),
  )
