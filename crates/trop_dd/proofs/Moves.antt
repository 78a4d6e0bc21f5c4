-- The rows of an order, moved to the places of those that are dropped.
--   IsIndexTo, index_more, index_all: the index of each number, found one after another
--   removed_long, removed_here, removed_there: what a list is whose last element takes the place of another
--   closed_first, closed_again, closed_further, closed_all: one place after another
--   closed_last, closed_moved: one place whose number is not in the order
use Rattle.std.proofs.Common.{◌≡◌, ◌<◌, ◌≤◌, ◌+◌, ◌-◌, ℕ, List, length, set, ⊎_elim, refl, sym, ap, ◌∙◌, arith, get_or, swap_remove}
use Rattle.std.specs.Prelude.{All, AllPairs}
use Rattle.std.proofs.lemmas.Bool.{cases_eq}
use Rattle.std.proofs.lemmas.List.{get_or_default, length-set, length-take, get_or-take, get_or-set_same, get_or-set_other}
use Rattle.trop_pruning.specs.Judged.{Side}
use Rattle.trop_dd.specs.Numbers.{IsIndex, IsClosedTo, AreMoved}

-- the index of each of the first i numbers
pub record IsIndexTo (order : List ℕ) (many i : ℕ) (at : List ℕ) : Type 0 where
  pub long : length at ≡ many
  pub here : (j : ℕ) → j < i → get_or at (get_or order j 0) 0 ≡ j
  pub back : (k : ℕ) → k < many → get_or at k 0 < length order →
      (get_or at k 0 < i) × (get_or order (get_or at k 0) 0 ≡ k)

module _ (order : List ℕ) (many : ℕ) (within : All (λ k. k < many) order) where
  pub index_more : AllPairs (λ i j. i ≡ j → ⊥) order → (i number : ℕ) (at next : List ℕ) → i < length order →
      number ≡ get_or order i 0 → IsIndexTo order many i at → next ≡ set at number i → IsIndexTo order many (i + 1) next
  index_more distinct i number at next l is h e =
      let inside : number < length at = omega (arith, h.long, is, within i 0 l) in
      record {
        long = ap length e ∙ length-set at number i ∙ h.long;
        here = λ j lj. ⊎_elim
            (λ same. ap (λ xs. get_or xs (get_or order j 0) 0) e
            ∙ ap (λ k. get_or (set at number i) (get_or order k 0) 0) same
            ∙ ap (λ k. get_or (set at number i) k 0) (sym is) ∙ get_or-set_same at number i 0 inside ∙ sym same)
            (λ ne. ap (λ xs. get_or xs (get_or order j 0) 0) e ∙ get_or-set_other at number (get_or order j 0) i 0
            (λ same. distinct j i 0 (omega (arith, lj, ne)) l (same ∙ is)) ∙ h.here j (omega (arith, lj, ne)))
            (cases_eq j i);
        back = λ k lk lt. ⊎_elim
            (λ same.
            let value : get_or next k 0 ≡ i = ap (λ xs. get_or xs k 0) e ∙ ap (λ m. get_or (set at number i) m 0) same
            ∙ get_or-set_same at number i 0 inside in (
              omega (arith, value),
              ap (λ m. get_or order m 0) value ∙ sym is ∙ sym same,
            ))
            (λ ne.
            let value : get_or next k 0 ≡ get_or at k 0 = ap (λ xs. get_or xs k 0) e
            ∙ get_or-set_other at number k i 0 ne in
            let old = h.back k lk (omega (arith, lt, value)) in (
              omega (arith, value, old.0),
              ap (λ m. get_or order m 0) value ∙ old.1,
            ))
            (cases_eq k number);
      }

  pub index_all : (i : ℕ) (at : List ℕ) → length order ≤ i → IsIndexTo order many i at → IsIndex order many at
  index_all i at le h = record {
    long = h.long;
    within = within;
    here = λ j l. h.here j (omega (arith, le, l));
    back = λ k l lt. (h.back k l lt).1;
  }

-- a list without one element, whose place the last one takes
module _ {X : Type 0} (xs ys : List X) (i : ℕ) (x : X) (within : i < length xs) (e : ys ≡ swap_remove xs i x) where
  pub removed_long : length ys + 1 ≡ length xs
  removed_long = omega (
    arith,
    ap length e,
    length-take (length xs - 1) (set xs i (get_or xs (length xs - 1) x)),
    length-set xs i (get_or xs (length xs - 1) x),
  )

  pub removed_here : (d : X) → i < length ys → get_or ys i d ≡ get_or xs (length ys) d
  removed_here d l =
      let last : length xs - 1 ≡ length ys = omega (arith, removed_long) in
      ap (λ zs. get_or zs i d) e
      ∙ get_or-take (length xs - 1) (set xs i (get_or xs (length xs - 1) x)) i d (omega (arith, l, removed_long))
      ∙ get_or-set_same xs i (get_or xs (length xs - 1) x) d within ∙ ap (λ k. get_or xs k x) last
      ∙ get_or_default xs (length ys) x d (omega (arith, removed_long))

  pub removed_there : (k : ℕ) (d : X) → (k ≡ i → ⊥) → k < length ys → get_or ys k d ≡ get_or xs k d
  removed_there k d ne l = ap (λ zs. get_or zs k d) e
      ∙ get_or-take (length xs - 1) (set xs i (get_or xs (length xs - 1) x)) k d (omega (arith, l, removed_long))
      ∙ get_or-set_other xs i k (get_or xs (length xs - 1) x) d ne

module _ {V : Type 0} where
  pub closed_first : (sides : List (Side V)) (order at : List ℕ) → IsIndex order (length sides) at →
      IsClosedTo sides order (length sides) sides order at
  closed_first sides order at h = record {
    index = h;
    below = omega arith;
    taken = λ k le l. absurd (omega arith);
    many = refl;
    same = λ i d l. refl;
  }

  -- from what it came to
  pub closed_again : (olds news : List (Side V)) (before order at : List ℕ) (place : ℕ) →
      IsClosedTo olds before place news order at → IsClosedTo news order place news order at
  closed_again olds news before order at place h = record {
    index = h.index;
    below = h.below;
    taken = h.taken;
    many = refl;
    same = λ i d l. refl;
  }

  pub closed_further : (olds mids news : List (Side V)) (before between order at now : List ℕ) (place next : ℕ) →
      IsClosedTo olds before place mids between at → IsClosedTo mids between next news order now →
      IsClosedTo olds before next news order now
  closed_further olds mids news before between order at now place next h k = record {
    index = k.index;
    below = k.below;
    taken = k.taken;
    many = k.many ∙ h.many;
    same = λ i d l. k.same i d (omega (arith, l, h.many)) ∙ h.same i d l;
  }

  pub closed_all : (olds news : List (Side V)) (before order at : List ℕ) (place : ℕ) → place ≤ 0 →
      IsClosedTo olds before place news order at → AreMoved olds before news order
  closed_all olds news before order at place le h = record {
    places = record {
      within = h.index.within;
      all = λ k l.
          let index = h.taken k (omega (arith, le)) l in (
            get_or at k 0,
            index,
            get_or_default order (get_or at k 0) k 0 index ∙ h.index.back k l index,
          );
    };
    many = h.many;
    same = h.same;
  }

-- one place, whose number is not in the order
module _ {V : Type 0} (sides next : List (Side V)) (order at now : List ℕ) (place : ℕ) (gone : Side V) (none : ℕ)
    (within : place < length sides) (h : IsClosedTo sides order (place + 1) sides order at)
    (dead : length order ≤ get_or at place 0) (es : next ≡ swap_remove sides place gone)
    (ea : now ≡ swap_remove at place none) where
  at_within : place < length at
  at_within = omega (arith, within, h.index.long)

  long : length next + 1 ≡ length sides
  long = removed_long sides next place gone within es

  both : length now ≡ length next
  both = omega (arith, long, removed_long at now place none at_within ea, h.index.long)

  elsewhere : (i : ℕ) → i < length order → get_or order i 0 ≡ place → ⊥
  elsewhere i l e = absurd (omega (arith, h.index.here i l, ap (λ k. get_or at k 0) e, dead, l))

  -- the number of an index, at any default
  number_within : (i : ℕ) (d : ℕ) → i < length order → (get_or order i 0 ≡ length next → ⊥) →
      get_or order i d < length next
  number_within i d l ne = omega (arith, h.index.within i 0 l, get_or_default order i d 0 l, long, ne)

  index_there : (k : ℕ) → (k ≡ place → ⊥) → k < length next → get_or now k 0 ≡ get_or at k 0
  index_there k ne l = removed_there at now place none at_within ea k 0 ne (omega (arith, l, both))

  -- the last place
  pub closed_last : length next ≤ place → IsClosedTo sides order place next order now
  closed_last le = record {
    index = record {
      long = both;
      within = λ i d l. number_within i d l (λ e. elsewhere i l (omega (arith, e, le, long, within)));
      here = λ i l. index_there (get_or order i 0) (elsewhere i l)
          (number_within i 0 l (λ e. elsewhere i l (omega (arith, e, le, long, within)))) ∙ h.index.here i l;
      back = λ k l lt.
          let value = index_there k (λ e. absurd (omega (arith, e, l, le))) l in
          ap (λ j. get_or order j 0) value
          ∙ h.index.back k (omega (arith, l, long)) (omega (arith, lt, value));
    };
    below = omega (arith, within, long);
    taken = λ k a l. absurd (omega (arith, a, l, le));
    many = refl;
    same = λ i d l. removed_there sides next place gone within es (get_or order i 0) d (elsewhere i l)
        (number_within i 0 l (λ e. elsewhere i l (omega (arith, e, le, long, within))));
  }

  -- a place before the last one, whose row comes there
  module _ (lt : place < length next) (new : List ℕ) (en : new ≡ set order (get_or now place 0) place) where
    last_index : get_or now place 0 ≡ get_or at (length next) 0
    last_index = removed_here at now place none at_within ea 0 (omega (arith, lt, both))
        ∙ ap (λ k. get_or at k 0) both

    last_taken : get_or at (length next) 0 < length order
    last_taken = h.taken (length next) (omega (arith, lt)) (omega (arith, long))

    last_back : get_or order (get_or now place 0) 0 ≡ length next
    last_back = ap (λ j. get_or order j 0) last_index ∙ h.index.back (length next) (omega (arith, long)) last_taken

    here : (d : ℕ) → get_or new (get_or now place 0) d ≡ place
    here d = ap (λ xs. get_or xs (get_or now place 0) d) en
        ∙ get_or-set_same order (get_or now place 0) place d (omega (arith, last_index, last_taken))

    there : (i : ℕ) (d : ℕ) → (i ≡ get_or now place 0 → ⊥) → get_or new i d ≡ get_or order i d
    there i d ne = ap (λ xs. get_or xs i d) en ∙ get_or-set_other order (get_or now place 0) i place d ne

    not_last : (i : ℕ) → i < length order → (i ≡ get_or now place 0 → ⊥) → get_or order i 0 ≡ length next → ⊥
    not_last i l ne e = ne (sym (h.index.here i l) ∙ ap (λ k. get_or at k 0) e ∙ sym last_index)

    new_long : length new ≡ length order
    new_long = ap length en ∙ length-set order (get_or now place 0) place

    inside : (i : ℕ) → i < length new → i < length order
    inside i l = omega (arith, l, new_long)

    pub closed_moved : IsClosedTo sides order place next new now
    closed_moved = record {
      index = record {
        long = both;
        within = λ i d l. ⊎_elim
            (λ e. omega (arith, lt, ap (λ j. get_or new j d) e, here d))
            (λ ne. omega (arith, there i d ne, number_within i d (inside i l) (not_last i (inside i l) ne)))
            (cases_eq i (get_or now place 0));
        here = λ i l. ⊎_elim
            (λ e. ap (λ j. get_or now (get_or new j 0) 0) e ∙ ap (λ k. get_or now k 0) (here 0) ∙ sym e)
            (λ ne. ap (λ k. get_or now k 0) (there i 0 ne)
            ∙ index_there (get_or order i 0) (elsewhere i (inside i l))
            (number_within i 0 (inside i l) (not_last i (inside i l) ne)) ∙ h.index.here i (inside i l))
            (cases_eq i (get_or now place 0));
        back = λ k l few. ⊎_elim
            (λ e. ap (λ m. get_or new (get_or now m 0) 0) e ∙ here 0 ∙ sym e)
            (λ ne.
            let value = index_there k ne l in
            let old = h.index.back k (omega (arith, l, long)) (omega (arith, few, value, new_long)) in
            there (get_or now k 0) 0 (λ e. absurd (omega (
              arith,
              l,
              old,
              ap (λ j. get_or order j 0) (sym value ∙ e),
              last_back,
            ))) ∙ ap (λ j. get_or order j 0) value ∙ old)
            (cases_eq k place);
      };
      below = omega (arith, lt);
      taken = λ k le l. ⊎_elim
          (λ e. omega (arith, ap (λ m. get_or now m 0) e, last_index, last_taken, new_long))
          (λ ne. omega (
            arith,
            index_there k ne l,
            h.taken k (omega (arith, le, ne)) (omega (arith, l, long)),
            new_long,
          ))
          (cases_eq k place);
      many = new_long;
      same = λ i d l. ⊎_elim
          (λ e. ap (λ j. get_or next (get_or new j 0) d) e ∙ ap (λ k. get_or next k d) (here 0)
          ∙ removed_here sides next place gone within es d lt
          ∙ ap (λ k. get_or sides k d) (sym last_back ∙ ap (λ j. get_or order j 0) (sym e)))
          (λ ne. ap (λ k. get_or next k d) (there i 0 ne)
          ∙ removed_there sides next place gone within es (get_or order i 0) d (elsewhere i l)
          (number_within i 0 l (not_last i l ne)))
          (cases_eq i (get_or now place 0));
    }
