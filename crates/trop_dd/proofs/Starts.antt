-- The numbers that stay.
--   AreFlagged, flagged_more, flagged_all: numbers that are flagged one after another
--   IsStart, start_from: the rows that stay, by their numbers
use Rattle.std.proofs.Common.{◌≡◌, ◌<◌, ◌≤◌, ◌+◌, ◌++◌, ℕ, Bool, true, false, cond, List, [], ◌∷◌, length, set, take, drop, filter, map, ⊎_elim, refl, sym, ap, ◌∙◌, arith, subst, get_or}
use Rattle.std.specs.Prelude.{All, AllPairs, Contains, ◌↔◌}
use Rattle.std.proofs.lemmas.Bool.{cases_eq}
use Rattle.std.proofs.lemmas.List.{get_or-map, length-set, length-map, get_or-set_same, get_or-set_other, take_more, take_all, take-append-drop, drop_more}
use Rattle.std.proofs.lemmas.List.Elements.{All-contains, All-filter, filter_passes, filter-append, Contains-append_left, Contains-append_right, Contains-push, Contains-push_cases}
use Rattle.std.proofs.lemmas.List.Kept.{AllPairs-filter}
use Rattle.trop_theory.specs.Semiring.{Semiring}
use Rattle.trop_theory.specs.Inequalities.{Inequality}
use Rattle.trop_theory.specs.Canonical.{RowBelow}
use Rattle.trop_theory.proofs.Truth.{HoldsOf}
use Rattle.trop_pruning.specs.Judged.{Side}
use Rattle.trop_dd.specs.declared.splitting.Kept.{Kept}
use Rattle.trop_dd.specs.declared.splitting.Dropped.{Dropped}
use Rattle.trop_dd.specs.Numbers.{AreNumbers, AreCommon}
use Rattle.trop_dd.specs.Carried.{rows_of, found_rows}
use Rattle.trop_dd.specs.Parts.{IsSplit}

-- the numbers below this many that are in the list are flagged
pub record AreFlagged (many : ℕ) (numbers : List ℕ) (flags : List Bool) : Type 0 where
  pub long : length flags ≡ many
  pub each : (k : ℕ) → k < many → (get_or flags k false ≡ true) ↔ Contains numbers k

pub flagged_more : (many i number : ℕ) (numbers : List ℕ) (flags next : List Bool) → i < length numbers →
    number ≡ get_or numbers i 0 → number < many → AreFlagged many (take i numbers) flags →
    next ≡ set flags number true → AreFlagged many (take (i + 1) numbers) next
flagged_more many i number numbers flags next l is inside h e =
    let more : take (i + 1) numbers ≡ take i numbers ++ number ∷ [] = take_more numbers i 0 l
    ∙ ap (λ m. take i numbers ++ m ∷ []) (sym is) in
    record {
      long = ap length e ∙ length-set flags number true ∙ h.long;
      each = λ k lk. ⊎_elim
          (λ same. (
            λ t. subst (λ xs. Contains xs k) (sym more)
                (subst (λ m. Contains (take i numbers ++ m ∷ []) k) same (Contains-push (take i numbers) k)),
            λ c. ap (λ xs. get_or xs k false) e ∙ ap (λ m. get_or (set flags number true) m false) same
                ∙ get_or-set_same flags number true false (omega (arith, inside, h.long)),
          ))
          (λ ne.
          let value : get_or next k false ≡ get_or flags k false = ap (λ xs. get_or xs k false) e
          ∙ get_or-set_other flags number k true false ne in (
            λ t. subst (λ xs. Contains xs k) (sym more) (Contains-append_left (take i numbers) (number ∷ []) k
                ((h.each k lk).0 (sym value ∙ t))),
            λ c. value ∙ (h.each k lk).1 (⊎_elim (λ o. o) (λ same. absurd (ne (sym same)))
                (Contains-push_cases (take i numbers) number k (subst (λ xs. Contains xs k) more c))),
          ))
          (cases_eq k number);
    }

pub flagged_all : (many i : ℕ) (numbers : List ℕ) (flags : List Bool) → length numbers ≤ i →
    AreFlagged many (take i numbers) flags → AreFlagged many numbers flags
flagged_all many i numbers flags le h = subst (λ xs. AreFlagged many xs flags) (take_all i numbers le) h

-- an element that passes stays
Contains-filter : {X : Type 0} (p : X → Bool) (xs : List X) (x : X) → Contains xs x → p x ≡ true →
    Contains (filter p xs) x
Contains-filter p xs x c t =
    let rest = drop (c.0 + 1) xs in
    let split : xs ≡ take c.0 xs ++ x ∷ rest = sym (take-append-drop c.0 xs)
    ∙ ap (λ ys. take c.0 xs ++ ys) (drop_more xs c.0 x c.1 ∙ ap (λ y. y ∷ rest) c.2) in
    subst (λ ys. Contains (filter p ys) x) (sym split)
    (subst (λ ys. Contains ys x) (sym (filter-append p (take c.0 xs) (x ∷ rest)))
    (Contains-append_right (filter p (take c.0 xs)) (filter p (x ∷ rest)) x
    (subst (λ b. Contains (cond b (x ∷ filter p rest) (filter p rest)) x) (sym t) (0, omega arith, refl))))

-- pairs of a list that is mapped
module _ {X Y : Type 0} (D : Y → Y → Type 0) (f : X → Y) (xs : List X) where
  pairs_before : AllPairs D (map f xs) → AllPairs (λ a b. D (f a) (f b)) xs
  pairs_before h i j d lt l = subst (λ a. D a (f (get_or xs j d))) (get_or-map f xs i d (f d) (omega arith))
      (subst (D (get_or (map f xs) i (f d))) (get_or-map f xs j d (f d) l)
      (h i j (f d) lt (omega (arith, l, length-map xs f))))

  pairs_behind : (e : X) → AllPairs (λ a b. D (f a) (f b)) xs → AllPairs D (map f xs)
  pairs_behind e h i j d lt l =
      let lj : j < length xs = omega (arith, l, length-map xs f) in
      subst (λ a. D a (get_or (map f xs) j d)) (sym (get_or-map f xs i e d (omega (arith, lt, lj))))
      (subst (D (f (get_or xs i e))) (sym (get_or-map f xs j e d lj)) (h i j e lt lj))

-- the rows that stay, by their numbers
pub record IsStart {V : Type 0} (R : Semiring V) (p : Inequality V) (sides : List (Side V)) (start : List ℕ) :
    Type 0 where
  pub each : All (λ k. (k < length sides) × ((d : Side V) → HoldsOf R p.left p.right (get_or sides k d).row)) start
  pub all : (k : ℕ) (d : Side V) → k < length sides → HoldsOf R p.left p.right (get_or sides k d).row →
      Contains start k
  pub ascending : AllPairs (RowBelow R) (found_rows sides [] start)

pub start_from : {V : Type 0} (R : Semiring V) (p : Inequality V) (sides : List (Side V)) (stay order start : List ℕ)
    (kept : List (Kept V)) (dropped : List (Dropped V)) → IsSplit R p sides (length sides) stay kept dropped →
    AreNumbers (length sides) order → AllPairs (RowBelow R) (found_rows sides [] order) → AreCommon order stay start →
    IsStart R p sides start
start_from {V} R p sides stay order start kept dropped split numbers ascending h = record {
  each = subst (All Holds) (sym h.filtered) (λ i d l. All-contains Holds stay (get_or (filter h.test order) i d)
      split.stay_each ((All-filter h.test Passes order h.passes i d l).0 (filter_passes h.test order i d l)));
  all = λ k d l holds. subst (λ xs. Contains xs k) (sym h.filtered) (Contains-filter h.test order k (numbers.all k l)
      ((All-contains Passes order k h.passes (numbers.all k l)).1 (split.stay_all k d l holds)));
  ascending = subst (λ xs. AllPairs (RowBelow R) (found_rows sides [] xs)) (sym h.filtered)
      (pairs_behind (RowBelow R) row (filter h.test order) 0
      (AllPairs-filter (λ a b. RowBelow R (row a) (row b)) h.test order
      (pairs_before (RowBelow R) row order ascending)));
}
  where
    Holds : ℕ → Type 0
    Holds k = (k < length sides) × ((d : Side V) → HoldsOf R p.left p.right (get_or sides k d).row)

    Passes : ℕ → Type 0
    Passes k = (h.test k ≡ true) ↔ Contains stay k

    row : ℕ → List V
    row k = get_or (rows_of (sides ++ [])) k []
