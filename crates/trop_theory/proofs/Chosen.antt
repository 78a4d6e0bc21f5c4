-- Elements chosen from a list keep its order.
use Rattle.std.proofs.Common.{◌≡◌, ◌⊎◌, ◌<◌, ℕ, zero, suc, List, [], ◌∷◌, length, inl, inr, ⊎_elim, sym, arith, subst, get_or}
use Rattle.std.specs.Prelude.{All, AllPairs, Contains}
use Rattle.std.proofs.lemmas.List.Elements.{All-contains, Contains-get_or}
use Rattle.trop_theory.specs.StepList.{AreChosen}
use Rattle.trop_theory.proofs.StepLists.{from_chosen}
use Rattle.plain_lemmas.proofs.Lists.{Contains-cons, Contains-cons_cases, Contains-none}

module _ {X : Type 0} (D : X → X → Type 0) where
  pairs_cons : (x : X) (xs : List X) → All (D x) xs → AllPairs D xs → AllPairs D (x ∷ xs)
  pairs_cons x xs h k zero zero d lt l = absurd (omega arith)
  pairs_cons x xs h k zero (suc j) d lt l = h j d (omega arith)
  pairs_cons x xs h k (suc i) zero d lt l = absurd (omega arith)
  pairs_cons x xs h k (suc i) (suc j) d lt l = k i j d (omega arith) (omega arith)

  pairs_head : (x : X) (xs : List X) → AllPairs D (x ∷ xs) → All (D x) xs
  pairs_head x xs h k d l = h 0 (suc k) d (omega arith) (omega arith)

  pairs_tail : (x : X) (xs : List X) → AllPairs D (x ∷ xs) → AllPairs D xs
  pairs_tail x xs h i j d lt l = h (suc i) (suc j) d (omega arith) (omega arith)

  -- what holds of each two elements in order holds of the chosen ones
  pub pairs_chosen : (P : X → Type 0) (xs ys : List X) → AreChosen P xs ys → AllPairs D xs → AllPairs D ys
  pairs_chosen P [] ys h k = subst (AllPairs D) (sym h) k
  pairs_chosen P (x ∷ xs) ys h k = ⊎_elim
      (λ a. subst (AllPairs D) (sym a.1.1) (pairs_cons x a.1.0
      (λ i d l. All-contains (D x) xs (get_or a.1.0 i d) (pairs_head x xs k)
      (from_chosen P xs a.1.0 a.1.2 (get_or a.1.0 i d) (Contains-get_or a.1.0 i d l)).0)
      (pairs_chosen P xs a.1.0 a.1.2 (pairs_tail x xs k))))
      (λ a. pairs_chosen P xs ys a.1 (pairs_tail x xs k))
      h

-- an element was chosen, or has the property not
pub chosen_or_not : {X : Type 0} (P : X → Type 0) (xs ys : List X) → AreChosen P xs ys → (x : X) → Contains xs x →
    (Contains ys x) ⊎ (P x → ⊥)
chosen_or_not P [] ys h x c = absurd (Contains-none x c)
chosen_or_not P (z ∷ xs) ys h x c = ⊎_elim
    (λ k. ⊎_elim
    (λ e. inl (subst (λ v. Contains v x) (sym k.1.1) (0, omega arith, e)))
    (λ t. ⊎_elim (λ q. inl (subst (λ v. Contains v x) (sym k.1.1) (Contains-cons z k.1.0 x q))) (λ q. inr q)
    (chosen_or_not P xs k.1.0 k.1.2 x t))
    (Contains-cons_cases z xs x c))
    (λ d. ⊎_elim
    (λ e. inr (subst (λ v. P v → ⊥) e d.0))
    (λ t. chosen_or_not P xs ys d.1 x t)
    (Contains-cons_cases z xs x c))
    h
