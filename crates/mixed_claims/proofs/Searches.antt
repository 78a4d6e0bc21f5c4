-- What holds of the terms of a list, and of the terms of the code that stand for them.
use Rattle.std.proofs.Common.{◌≡◌, ◌<◌, ◌+◌, ℕ, true, false, List, [], ◌∷◌, map, length, get_or, sym, ap, ◌∙◌, subst, refl, arith}
use Rattle.std.specs.Prelude.{◌↔◌, All, Any, IsTrue}
use Rattle.std.proofs.lemmas.List.{length-map, get_or-map, get_or_default}
use Rattle.std.proofs.lemmas.List.Elements.{All-map}
use Rattle.cone_claims.proofs.Loops.{each_more, not_each}
use Rattle.cone_claims.proofs.TermSums.{holds_at}

module _ {X Y : Type 0} (P : Y → Type 0) (f : X → Y) (xs : List X) where
  pub each_mapped : All (λ x. P (f x)) xs ↔ All P (map f xs)
  each_mapped = (λ h. All-map P f xs h, λ h k d l. holds_at P f xs k d l h)

  pub some_mapped : Any (λ x. P (f x)) xs ↔ Any P (map f xs)
  some_mapped = (
    λ h. (h.0, f h.1, omega (arith, h.2, length-map xs f), get_or-map f xs h.0 h.1 (f h.1) h.2 ∙ ap f h.3, h.4),
    λ h. let l : h.0 < length xs = omega (arith, h.2, length-map xs f) in
        back h.0 h.1 l h.3 h.4,
  )
    where
      back : (k : ℕ) (y : Y) → k < length xs → get_or (map f xs) k y ≡ y → P y → Any (λ x. P (f x)) xs
      back k y l e p = let x = first xs k l in
          (k, x.0, l, x.1, subst P (sym (sym (get_or-map f xs k x.0 y l ∙ ap f x.1) ∙ e)) p)
        where
          first : (ys : List X) (k : ℕ) → k < length ys → (x : X) × (get_or ys k x ≡ x)
          first [] k l = absurd (omega arith)
          first (z ∷ zs) k l = (get_or (z ∷ zs) k z, get_or_default (z ∷ zs) k (get_or (z ∷ zs) k z) z l)

-- an element that is read lacks the property, or has it as those before it have
pub not_each_at : {X : Type 0} (P : X → Type 0) (xs : List X) (k : ℕ) (d : X) → k < length xs
    → (P (get_or xs k d) → ⊥) → IsTrue false ↔ All P xs
not_each_at P xs k d l fails =
    not_each P xs k (get_or xs k d) (get_or_default xs k d (get_or xs k d) l) l fails

pub each_more_at : {X : Type 0} (P : X → Type 0) (xs : List X) (k : ℕ) (d : X) → k < length xs
    → ((j : ℕ) (e : X) → j < k → P (get_or xs j e)) → P (get_or xs k d)
    → (j : ℕ) (e : X) → j < k + 1 → P (get_or xs j e)
each_more_at P xs k d l before here =
    each_more P xs k (get_or xs k d) (get_or_default xs k d (get_or xs k d) l) l before here

-- an element that has the property
pub found_at : {X : Type 0} (P : X → Type 0) (xs : List X) (k : ℕ) (d : X) → k < length xs → P (get_or xs k d)
    → IsTrue true ↔ Any P xs
found_at P xs k d l p =
    (λ t. (k, get_or xs k d, l, sym (get_or_default xs k d (get_or xs k d) l), p), λ h. refl)
