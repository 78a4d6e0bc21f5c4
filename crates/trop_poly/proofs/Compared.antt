-- Rows that are taken one after another, each a combination of others, and what the first that is none tells.
use Rattle.std.proofs.Common.{◌≡◌, ◌<◌, ◌≤◌, ◌+◌, ℕ, List, [], ◌∷◌, ◌++◌, length, take, get_or, sym, ap, ◌∙◌, refl, arith, subst, Option, None, Some, true≢false}
use Rattle.std.specs.Prelude.{All, ◌↔◌, IsNone, IfNone, IfSome, IsTrue}
use Rattle.std.proofs.lemmas.List.{take_more, get_or-take, get_or_default, length-take-le}
use Rattle.std.proofs.lemmas.List.Elements.{All-push}
use Rattle.trop_theory.specs.Semiring.{Semiring, SemiringLaws}
use Rattle.trop_theory.specs.Combinations.{IsCombination}
use Rattle.trop_theory.proofs.Residual.{IsCombination-at}
use Rattle.trop_cones.proofs.Cones.{combinations_are_cone, within_is_rows}
use Rattle.trop_poly.specs.Outside.{IsFirstOutside}

module _ {V : Type 0} (cone : List V → Type 0) (rows : List (List V)) (k : ℕ) (row : List V) (within : k < length rows)
    (read : row ≡ get_or rows k row) where
  pub inside_more : All cone (take k rows) → cone row → All cone (take (k + 1) rows)
  inside_more h t = subst (All cone) (ap (λ w. take k rows ++ w ∷ []) read ∙ sym (take_more rows k row within))
      (All-push cone (take k rows) row h t)

  pub first_outside_at : All cone (take k rows) → (cone row → ⊥) → IsFirstOutside rows cone k
  first_outside_at h f = record {
    within = within;
    outside = λ d t. f (subst cone (get_or_default rows k d row within ∙ sym read) t);
    before = λ j d l. subst cone (get_or-take k rows j d l)
        (h j d (omega (arith, length-take-le k rows (omega arith))));
  }

-- the first row outside tells whether the cone of the rows lies in the other
module _ {V : Type 0} {R : Semiring V} (laws : SemiringLaws R) (n : ℕ) (rows others : List (List V))
    (w : All (λ g. length g ≡ n) rows) (v : All (λ g. length g ≡ n) others) where
  pub within_by_first : (found : Option ℕ) → IfNone found (All (IsCombination R n others) rows) →
      IfSome found (IsFirstOutside rows (IsCombination R n others)) →
      IsNone found ↔ ((x : List V) → IsCombination R n rows x → IsCombination R n others x)
  within_by_first None all first = (
    λ e. (within_is_rows laws n (IsCombination R n others)
        (combinations_are_cone laws n others v) rows w).1 all,
    λ h. refl,
  )
  within_by_first (Some k) all first = (
    λ e. absurd (true≢false e),
    λ h. absurd (first.outside (get_or rows k [])
        (h (get_or rows k (get_or rows k [])) (IsCombination-at laws n rows k (get_or rows k []) w first.within))),
  )
