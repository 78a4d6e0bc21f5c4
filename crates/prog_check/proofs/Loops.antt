-- Searches for the first element of a list that lacks a property.
use Rattle.std.proofs.Common.{◌≡◌, ◌<◌, ◌≤◌, ◌+◌, ℕ, zero, suc, List, [], ◌∷◌, Some, None, Ok, Err, Option, Result, length, take, get_or, sym, ap, ◌∙◌, subst, arith}
use Rattle.std.specs.Prelude.{All, slice_get, MatchOption, IfOk}
use Rattle.std.proofs.lemmas.List.{length-take-le, get_or-take}
use Rattle.std.proofs.lemmas.Option.{get_or_from_slice_get, slice_get_within}
use Rattle.cone_reports.specs.Verdicts.{IsFirstWithout}
use Rattle.cone_claims.proofs.Loops.{each_more}

pub get_at : {X : Type 0} (xs : List X) (k : ℕ) (x : X) → x ≡ get_or xs k x → k < length xs → slice_get xs k ≡ Some x
get_at [] k x e l = absurd (omega arith)
get_at (y ∷ xs) zero x e l = ap Some (sym e)
get_at (y ∷ xs) (suc k) x e l = get_at xs k x e (omega arith)

taken : {X : Type 0} (P : X → Type 0) (xs : List X) (k : ℕ) → k ≤ length xs
    → ((j : ℕ) (d : X) → j < k → P (get_or xs j d)) → All P (take k xs)
taken P xs k l before j d m =
    let within : j < k = omega (arith, length-take-le k xs l) in
    subst P (sym (get_or-take k xs j d within)) (before j d within)

-- the element at the place is the first that lacks it
pub first_at : {X : Type 0} (P : X → Type 0) (xs : List X) (k : ℕ) (x : X) → x ≡ get_or xs k x → k < length xs
    → ((j : ℕ) (d : X) → j < k → P (get_or xs j d)) → (P x → ⊥) → IsFirstWithout P xs k x
first_at P xs k x is l before fails =
    record { at = get_at xs k x is l; lacks = fails; before = taken P xs k (omega arith) before }

-- the same of an element that is read at the place
pub first_read : {X : Type 0} (P : X → Type 0) (xs : List X) (k : ℕ) (x : X) → slice_get xs k ≡ Some x
    → ((j : ℕ) (d : X) → j < k → P (get_or xs j d)) → (P x → ⊥) → IsFirstWithout P xs k x
first_read P xs k x e before fails =
    let within : k < length xs = slice_get_within xs k x e in
    record { at = e; lacks = fails; before = taken P xs k (omega (arith, within)) before }

pub read_more : {X : Type 0} (P : X → Type 0) (xs : List X) (k : ℕ) (x : X) → slice_get xs k ≡ Some x
    → ((j : ℕ) (d : X) → j < k → P (get_or xs j d)) → P x → (j : ℕ) (d : X) → j < k + 1 → P (get_or xs j d)
read_more P xs k x e before here =
    each_more P xs k x (sym (get_or_from_slice_get xs k x x e)) (slice_get_within xs k x e) before here

-- no element lacks it
pub all_have : {X : Type 0} (P : X → Type 0) (xs : List X) (k : ℕ) → length xs ≤ k
    → ((j : ℕ) (d : X) → j < k → P (get_or xs j d)) → All P xs
all_have P xs k past before j d m = before j d (omega arith)

-- what is found, told in other words
pub found_moved : {X E A A' : Type 0} (B B' : X → Type 0) (result : Result (Option X) E) → (A → A')
    → ((x : X) → B x → B' x) → IfOk result (λ found. MatchOption found A B)
    → IfOk result (λ found. MatchOption found A' B')
found_moved B B' (Ok None) f g h = f h
found_moved B B' (Ok (Some x)) f g h = g x h
found_moved B B' (Err e) f g h = h

-- what a search that found x, or nothing, says
pub some_of : {X : Type 0} (A : Type 0) (B : X → Type 0) (o : Option X) (x : X) → o ≡ Some x → MatchOption o A B → B x
some_of A B o x e h = subst (λ p. MatchOption p A B) e h

pub none_of : {X : Type 0} (A : Type 0) (B : X → Type 0) (o : Option X) → o ≡ None → MatchOption o A B → A
none_of A B o e h = subst (λ p. MatchOption p A B) e h
