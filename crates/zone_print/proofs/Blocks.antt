-- The blocks of points, when the loop over them ends.
use Rattle.std.proofs.Common.{◌≡◌, ◌≤◌, ◌∙◌, ℕ, List, [], ◌∷◌, map, length, take, refl, ap}
use Rattle.std.proofs.lemmas.List.{take_all}

map-map : {A B C : Type 0} (g : B → C) (h : A → B) (xs : List A) → map (λ x. g (h x)) xs ≡ map g (map h xs)
map-map g h [] = refl
map-map g h (x ∷ xs) = ap (λ ys. g (h x) ∷ ys) (map-map g h xs)

module _ {A B C E : Type 0} (items : E → C) (g : B → C) (h : A → B) where
  -- what is made of the first i things
  abbrev made : List A → ℕ → List C
  made xs i = map (λ x. g (h x)) (take i xs)

  pub all_made : (xs : List A) (i : ℕ) (out : List E) → length xs ≤ i → map items out ≡ made xs i
      → map items out ≡ map g (map h xs)
  all_made xs i out past before = before ∙ ap (map (λ x. g (h x))) (take_all i xs past) ∙ map-map g h xs
