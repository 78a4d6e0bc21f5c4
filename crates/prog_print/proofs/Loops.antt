-- Loops that print: what is printed so far and what is left are the whole.
use Rattle.std.proofs.Common.{◌≡◌, ◌+◌, ◌<◌, ℕ, zero, suc, Some, None, List, [], ◌∷◌, ◌++◌, codes, length, drop, get_or, refl, sym, ap, ◌∙◌, append_assoc, arith, subst}
use Rattle.std.specs.Prelude.{All, map, slice_get, slice_index_or}
use Rattle.std.proofs.Math.Seq.{drop-cons}
use Rattle.prog_theory.specs.States as theory
use Rattle.prog_theory.specs.Fits.{FitsTerm}
use Rattle.prog_tree.specs.declared.term.Term.{Term}
use Rattle.prog_tree.specs.Terms.{term_of}
use Rattle.prog_texts.specs.Inks.{name_text}
use Rattle.prog_print.specs.Texts.{indent_text}

-- what is left begins with the item at hand
pub drop_item : {A : Type 0} (xs : List A) (i : ℕ) (x : A) → i < length xs → x ≡ get_or xs i x →
    drop i xs ≡ x ∷ drop (i + 1) xs
drop_item xs i x h e =
    let next : suc i ≡ i + 1 = omega arith in
    drop-cons xs i x h ∙ ap (λ y. y ∷ drop (suc i) xs) (sym e) ∙ ap (λ j. x ∷ drop j xs) next

-- the same, from a look-up
pub drop_found : {A : Type 0} (xs : List A) (i : ℕ) (x : A) → slice_get xs i ≡ Some x → drop i xs ≡ x ∷ drop (i + 1) xs
drop_found [] i x e = absurd (none_some x e)
  where
    none_some : {B : Type 0} (y : B) → None ≡ Some y → ⊥
    none_some y e = cc
drop_found (y ∷ xs) zero x e = ap (λ z. z ∷ xs) (some_same y x e)
  where
    some_same : {B : Type 0} (y x : B) → Some y ≡ Some x → y ≡ x
    some_same y x e = cc
drop_found (y ∷ xs) (suc i) x e = let next : suc i + 1 ≡ suc (i + 1) = omega arith in
    drop_found xs i x e ∙ ap (λ j. x ∷ drop j (y ∷ xs)) (sym next)

-- two pieces more are printed
pub two_more : (done first second rest p q more whole : List ℕ) → done ++ rest ≡ whole → rest ≡ p ++ (q ++ more) →
    first ≡ done ++ p → second ≡ first ++ q → second ++ more ≡ whole
two_more done first second rest p q more whole h e f s =
    ap (λ t. t ++ more) (s ∙ ap (λ t. t ++ q) f) ∙ append_assoc (done ++ p) q more ∙ append_assoc done p (q ++ more)
    ∙ ap (λ r. done ++ r) (sym e) ∙ h

-- the name of a variable, from a look-up
pub name_found : (names : List (List ℕ)) (var place : ℕ) (name : List ℕ) → var ≡ suc place →
    slice_get names place ≡ Some name → name_text names var ≡ name
name_found names var place name e found = ap (name_text names) e ∙ read names place name found
  where
    read : (names : List (List ℕ)) (k : ℕ) (name : List ℕ) → slice_get names k ≡ Some name →
        slice_index_or names k [] ≡ name
    read [] k name e = cc
    read (x ∷ names) zero name e = cc
    read (x ∷ names) (suc k) name e = read names k name e

-- one step further in
pub indent_more : (n : ℕ) → indent_text (n + 1) ≡ indent_text n ++ codes "  "
indent_more n = let next : n + 1 ≡ suc n = omega arith in ap indent_text next ∙ at n
  where
    at : (n : ℕ) → indent_text (suc n) ≡ indent_text n ++ codes "  "
    at zero = refl
    at (suc n) = ap (λ t. codes "  " ++ t) (at n)

-- what holds of the terms that a list stands for
unmapped : (P : theory.Term → Type 0) (ts : List Term) → All P (map term_of ts) → All (λ t. P (term_of t)) ts
unmapped P [] h = λ i d l. absurd (omega arith)
unmapped P (t ∷ ts) h = at (unmapped P ts (λ j e m. h (suc j) e (omega arith)))
  where
    at : All (λ u. P (term_of u)) ts → (i : ℕ) (d : Term) → i < length (t ∷ ts) → P (term_of (get_or (t ∷ ts) i d))
    at k zero d l = h 0 (term_of t) (omega arith)
    at k (suc i) d l = k i d (omega arith)

pub fits_terms : (n : ℕ) (all : List theory.Term) (ts : List Term) → map term_of ts ≡ all → All (FitsTerm n) all →
    All (λ t. FitsTerm n (term_of t)) ts
fits_terms n all ts e h = unmapped (FitsTerm n) ts (subst (All (FitsTerm n)) (sym e) h)
