-- Searches through a list, one element after another.
use Rattle.std.proofs.Common.{◌≡◌, ◌<◌, ◌≤◌, ◌+◌, ⊎_elim, ℕ, true, false, List, length, get_or, refl, sym, ◌∙◌, subst, arith, true≢false}
use Rattle.std.specs.Prelude.{All, Any, IsTrue, ◌↔◌}
use Rattle.std.proofs.lemmas.Bool.{cases_lt}
use Rattle.std.proofs.lemmas.List.{get_or_default}
use Rattle.trop_theory.specs.Semiring.{Semiring}
use Rattle.trop_theory.specs.Vectors.{row_size, rows_size}
use Rattle.trop_row.proofs.Sizes.{rows_size-read}

-- what holds of the elements before a place and of the element there
pub each_more : {X : Type 0} (P : X → Type 0) (xs : List X) (k : ℕ) (x : X) → x ≡ get_or xs k x → k < length xs
    → ((j : ℕ) (d : X) → j < k → P (get_or xs j d)) → P x → (j : ℕ) (d : X) → j < k + 1 → P (get_or xs j d)
each_more P xs k x is l before here j d m = ⊎_elim
    (λ lt. before j d lt)
    (λ le.
    let same : k ≡ j = omega arith in
    subst (λ i. P (get_or xs i d)) same (subst P (is ∙ sym (get_or_default xs k d x l)) here))
    (cases_lt j k)

-- where no element has the property, none is found
pub none_found : {X : Type 0} (P : X → Type 0) (xs : List X) (k : ℕ) → length xs ≤ k
    → ((j : ℕ) (d : X) → j < k → P (get_or xs j d) → ⊥) → IsTrue false ↔ Any P xs
none_found P xs k past none = (
  λ f. absurd (true≢false (sym f)),
  λ h. absurd (none h.0 h.1 (omega (arith, h.2)) (subst P (sym h.3) h.4)),
)

-- an element that lacks the property
pub not_each : {X : Type 0} (P : X → Type 0) (xs : List X) (k : ℕ) (x : X) → x ≡ get_or xs k x → k < length xs
    → (P x → ⊥) → IsTrue false ↔ All P xs
not_each P xs k x is l fails = (
  λ f. absurd (true≢false (sym f)),
  λ h. absurd (fails (subst P (sym is) (h k x l))),
)

-- where each element has the property
pub each_found : {X : Type 0} (P : X → Type 0) (xs : List X) (k : ℕ) → length xs ≤ k
    → ((j : ℕ) (d : X) → j < k → P (get_or xs j d)) → IsTrue true ↔ All P xs
each_found P xs k past before = (λ t j d l. before j d (omega (arith, l, past)), λ h. refl)

-- what the sizes of all rows allow, that of a row which is read does
pub read_small : {V : Type 0} (R : Semiring V) (rows : List (List V)) (k : ℕ) (x : List V) (more most : ℕ)
    → x ≡ get_or rows k x → k < length rows → rows_size R rows + more ≤ most → row_size R x + more ≤ most
read_small R rows k x more most is l small = omega (arith, rows_size-read R rows k x is l, small)

pub read_within : {V : Type 0} (R : Semiring V) (rows : List (List V)) (k : ℕ) (x : List V) (most : ℕ)
    → x ≡ get_or rows k x → k < length rows → rows_size R rows ≤ most → row_size R x ≤ most
read_within R rows k x most is l small = omega (arith, rows_size-read R rows k x is l, small)
