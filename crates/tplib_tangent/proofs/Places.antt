-- What holds of each item of a list, at a place and up to a place.
use Rattle.std.proofs.Common.{◌≡◌, ◌≤◌, ◌+◌, ◌++◌, ◌∷◌, [], ℕ, List, Some, length, take, get_or, sym, ap, ◌∙◌, subst}
use Rattle.std.specs.Prelude.{All, slice_get}
use Rattle.std.proofs.lemmas.List.{take_more, take_all}
use Rattle.std.proofs.lemmas.List.Elements.{All-push}
use Rattle.std.proofs.lemmas.Option.{get_or_from_slice_get, slice_get_within}

module _ {X : Type 0} (P : X → Type 0) (xs : List X) where
  pub All-at : (k : ℕ) (x : X) → All P xs → slice_get xs k ≡ Some x → P x
  All-at k x h e = subst P (get_or_from_slice_get xs k x x e) (h k x (slice_get_within xs k x e))

  pub All-take_more : (k : ℕ) (x : X) → All P (take k xs) → slice_get xs k ≡ Some x → P x → All P (take (k + 1) xs)
  All-take_more k x h e p =
      subst (All P) (sym (take_more xs k x (slice_get_within xs k x e) ∙ ap (λ y. take k xs ++ y ∷ [])
      (get_or_from_slice_get xs k x x e)))
      (All-push P (take k xs) x h p)

  pub All-take_all : (k : ℕ) → length xs ≤ k → All P (take k xs) → All P xs
  All-take_all k l h = subst (All P) (take_all k xs l) h

-- the item at a place is one
pub same_item : {X : Type 0} (xs : List X) (k : ℕ) (x y : X) → slice_get xs k ≡ Some x → slice_get xs k ≡ Some y → x ≡ y
same_item xs k x y p q = sym (get_or_from_slice_get xs k x x p) ∙ get_or_from_slice_get xs k y x q
