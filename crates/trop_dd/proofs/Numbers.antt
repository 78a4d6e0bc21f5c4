-- Rows by their numbers, where new rows come behind the old ones.
use Rattle.std.proofs.Common.{◌≡◌, ◌<◌, ◌≤◌, ◌+◌, ◌-◌, ℕ, suc, List, [], ◌∷◌, ◌++◌, length, take, drop, sym, ap, ap₂, ◌∙◌, refl, arith, subst, get_or, append_assoc}
use Rattle.std.specs.Prelude.{All, AllPairs, Contains, insert, map}
use Rattle.std.proofs.Math.Seq.{get_or-append_right}
use Rattle.std.proofs.lemmas.List.{get_or-map, length-map, length-append, map-append, take-map, drop-map, get_or_append_left, get_or_push, get_or_default, append-nil, same_lists}
use Rattle.trop_theory.specs.Semiring.{Semiring}
use Rattle.trop_theory.specs.Canonical.{RowBelow}
use Rattle.trop_theory.proofs.Distinct.{row_below_itself}
use Rattle.trop_pruning.specs.Judged.{Side}
use Rattle.trop_dd.specs.Numbers.{AreNumbers}
use Rattle.trop_dd.specs.Carried.{rows_of, found_rows}
use Rattle.trop_dd.proofs.Places.{row_read, length-rows, Contains-row}

-- a list with one more element somewhere
map_insert : {X Y : Type 0} (f : X → Y) (xs : List X) (i : ℕ) (x : X) →
    map f (insert xs i x) ≡ insert (map f xs) i (f x)
map_insert f xs i x = map-append f (take i xs) (x ∷ drop i xs) ∙ ap (λ w. w ++ f x ∷ map f (drop i xs))
    (sym (take-map f i xs)) ∙ ap (λ w. take i (map f xs) ++ f x ∷ w) (sym (drop-map f i xs))

-- what agrees on a list maps it alike
map_alike : {X Y : Type 0} (f g : X → Y) (xs : List X) → All (λ x. f x ≡ g x) xs → map f xs ≡ map g xs
map_alike f g [] h = refl
map_alike f g (x ∷ xs) h = ap₂ (λ a b. a ∷ b) (h 0 x (omega arith))
    (map_alike f g xs (λ k d l. h (suc k) d (omega arith)))

module _ {V : Type 0} (sides fresh : List (Side V)) where
  -- the row of a number
  pub number_row : (k : ℕ) (d : Side V) → k < length (sides ++ fresh) →
      get_or (rows_of (sides ++ fresh)) k [] ≡ (get_or (sides ++ fresh) k d).row
  number_row k d l = row_read (sides ++ fresh) k d [] l

  -- of one of the new rows
  pub number_fresh : (k : ℕ) (s : Side V) → k < length (sides ++ fresh) → length sides ≤ k →
      s ≡ get_or fresh (k - length sides) s → s.row ≡ get_or (rows_of (sides ++ fresh)) k []
  number_fresh k s l le is = ap (λ a. a.row) (is ∙ sym (get_or-append_right sides fresh k s le))
      ∙ sym (number_row k s l)

  pub length-found : (order : List ℕ) → length (found_rows sides fresh order) ≡ length order
  length-found order = length-map order (λ k. get_or (rows_of (sides ++ fresh)) k [])

  pub found_read : (order : List ℕ) (i : ℕ) (d : List V) → i < length order →
      get_or (found_rows sides fresh order) i d ≡ get_or (rows_of (sides ++ fresh)) (get_or order i 0) []
  found_read order i d l = get_or-map (λ k. get_or (rows_of (sides ++ fresh)) k []) order i 0 d l

  -- rows that ascend have different numbers
  pub found_distinct : (R : Semiring V) (order : List ℕ) → AllPairs (RowBelow R) (found_rows sides fresh order) →
      AllPairs (λ i j. i ≡ j → ⊥) order
  found_distinct R order h i j d lt l e =
      let li : i < length order = omega (arith, lt, l) in
      let zero_i : get_or order i 0 ≡ get_or order i d = get_or_default order i 0 d li in
      let zero_j : get_or order j 0 ≡ get_or order j d = get_or_default order j 0 d l in
      let same : get_or (found_rows sides fresh order) i [] ≡ get_or (found_rows sides fresh order) j [] =
      found_read order i [] li ∙ ap (λ k. get_or (rows_of (sides ++ fresh)) k []) (zero_i ∙ e ∙ sym zero_j)
      ∙ sym (found_read order j [] l) in
      row_below_itself R (get_or (found_rows sides fresh order) j [])
      (subst (λ r. RowBelow R r (get_or (found_rows sides fresh order) j [])) same
      (h i j [] lt (omega (arith, l, length-found order))))

  module _ (side : Side V) (number : ℕ) (e : number ≡ length sides + length fresh) where
    longer : sides ++ (fresh ++ side ∷ []) ≡ (sides ++ fresh) ++ side ∷ []
    longer = sym (append_assoc sides fresh (side ∷ []))

    many : length (sides ++ fresh) ≡ number
    many = length-append sides fresh ∙ sym e

    pub more_numbers : length (sides ++ (fresh ++ side ∷ [])) ≡ length (sides ++ fresh) + 1
    more_numbers = ap length longer ∙ length-append (sides ++ fresh) (side ∷ [])

    new_row : get_or (rows_of (sides ++ (fresh ++ side ∷ []))) number [] ≡ side.row
    new_row = ap (λ s. get_or (rows_of s) number []) longer ∙ row_read ((sides ++ fresh) ++ side ∷ []) number side []
        (omega (arith, many, length-append (sides ++ fresh) (side ∷ [])))
        ∙ ap (λ s. s.row) (get_or_push (sides ++ fresh) side side number many)

    old_row : (k : ℕ) → k < length (sides ++ fresh) →
        get_or (rows_of (sides ++ (fresh ++ side ∷ []))) k [] ≡ get_or (rows_of (sides ++ fresh)) k []
    old_row k l = ap (λ s. get_or (rows_of s) k []) longer ∙ row_read ((sides ++ fresh) ++ side ∷ []) k side []
        (omega (arith, l, length-append (sides ++ fresh) (side ∷ [])))
        ∙ ap (λ s. s.row) (get_or_append_left (sides ++ fresh) (side ∷ []) side k l) ∙ sym (number_row k side l)

    -- one more new row, whose number is put to a place
    pub found-put : (order new : List ℕ) (beside : List (Side V)) (place : ℕ) →
        All (λ k. k < length (sides ++ fresh)) order → new ≡ insert order place number → beside ≡ fresh ++ side ∷ [] →
        found_rows sides beside new ≡ insert (found_rows sides fresh order) place side.row
    found-put order new beside place within en eb =
        ap₂ (λ b o. found_rows sides b o) eb en
        ∙ map_insert (λ k. get_or (rows_of (sides ++ (fresh ++ side ∷ []))) k []) order place number
        ∙ ap₂ (λ rows r. insert rows place r) (map_alike (λ k. get_or (rows_of (sides ++ (fresh ++ side ∷ []))) k [])
        (λ k. get_or (rows_of (sides ++ fresh)) k []) order (λ i d l. old_row (get_or order i d) (within i d l)))
        new_row

-- rows of which none is new
module _ {V : Type 0} (sides : List (Side V)) where
  blank : Side V
  blank = record { row = []; words = record { support = 0; types = 0; cover = 0 }; slots = []; places = [] }

  pub old_read : (order : List ℕ) (i : ℕ) (d : Side V) (e : List V) → i < length order →
      get_or order i 0 < length sides →
      get_or (found_rows sides [] order) i e ≡ (get_or sides (get_or order i 0) d).row
  old_read order i d e l within = found_read sides [] order i e l
      ∙ ap (λ s. get_or (rows_of s) (get_or order i 0) []) (append-nil sides)
      ∙ row_read sides (get_or order i 0) d [] within

  -- rows in an order are those of all places
  module _ (order : List ℕ) (numbers : AreNumbers (length sides) order) where
    pub found_beside : All (Contains (rows_of sides)) (found_rows sides [] order)
    found_beside i d l =
        let li : i < length order = omega (arith, l, length-found sides [] order) in
        subst (Contains (rows_of sides)) (sym (old_read order i blank d li (numbers.within i 0 li)))
        (Contains-row sides (get_or order i 0) blank (numbers.within i 0 li))

    pub found_only : All (Contains (found_rows sides [] order)) (rows_of sides)
    found_only k d l =
        let lk : k < length sides = omega (arith, l, length-rows sides) in
        let at = numbers.all k lk in (
          at.0,
          omega (arith, at.1, length-found sides [] order),
          old_read order at.0 blank (get_or (rows_of sides) k d) at.1 (numbers.within at.0 0 at.1)
              ∙ ap (λ j. (get_or sides j blank).row) (get_or_default order at.0 0 k at.1 ∙ at.2)
              ∙ sym (row_read sides k blank d lk),
        )

  -- the same rows in the same order
  pub found_alike : (others : List (Side V)) (order : List ℕ) → rows_of sides ≡ rows_of others →
      found_rows sides [] order ≡ found_rows others [] order
  found_alike others order e =
      let both : rows_of (sides ++ []) ≡ rows_of (others ++ []) = ap rows_of (append-nil sides) ∙ e
      ∙ sym (ap rows_of (append-nil others)) in
      ap (λ rows. map (λ k. get_or rows k []) order) both

  -- numbers that are places
  pub found_itself : (order : List ℕ) → length order ≡ length sides →
      ((k : ℕ) → k < length sides → get_or order k 0 ≡ k) → found_rows sides [] order ≡ rows_of sides
  found_itself order e same = same_lists (found_rows sides [] order) (rows_of sides)
      (length-found sides [] order ∙ e ∙ sym (length-rows sides)) (λ k d l.
      let lo : k < length order = omega (arith, l, length-found sides [] order) in
      let ls : k < length sides = omega (arith, lo, e) in
      old_read order k blank d lo (omega (arith, same k ls, ls)) ∙ ap (λ j. (get_or sides j blank).row) (same k ls)
      ∙ sym (row_read sides k blank d ls))
