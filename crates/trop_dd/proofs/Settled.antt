-- What is settled beside the rows, and rows that are moved to their places.
--   IsTakenBack, taken_first, taken_more, taken_all: slots that are taken off again
--   put_first, put_more, put_failed, put_end: slots that are put beside the rows, one after another
--   IsSettledTo, settled_first, settled_edge, settled_loose, settled_all: words that belong to them
--   cut_off: fresh rows that are taken off again
--   settled_each, settled_found, settled_numbers: what is carried beside the rows then, where all stay
--   arranged_each, arranged_found: where some are dropped
use Rattle.std.proofs.Common.{◌≡◌, ◌<◌, ◌≤◌, ◌+◌, ◌-◌, ℕ, Bool, true, List, [], ◌∷◌, ◌++◌, length, set, take, ⊎_elim, refl, sym, ap, ◌∙◌, arith, subst, get_or}
use Rattle.std.specs.Prelude.{All, nat_eq}
use Rattle.std.proofs.Math.Seq.{get_or-append_right}
use Rattle.std.proofs.lemmas.Bool.{cases_lt, cases_eq, eqb-true}
use Rattle.std.proofs.lemmas.List.{same_lists, get_or_default, length-set, length-append, get_or-set_same, get_or-set_other, get_or_append_left, take-append-le, take_all}
use Rattle.trop_theory.specs.Semiring.{Semiring, SemiringLaws}
use Rattle.trop_theory.specs.Inequalities.{Inequality}
use Rattle.trop_theory.proofs.Truth.{HoldsOf, truth}
use Rattle.trop_criterion.specs.Hypergraphs.{Has}
use Rattle.trop_pruning.specs.Slots.{Slot}
use Rattle.trop_pruning.specs.PairEdges.{HasEdge}
use Rattle.trop_pruning.specs.Judged.{Side, IsSide}
use Rattle.trop_pruning.specs.Kept.{IsPut, IsSettled}
use Rattle.trop_pruning.proofs.KeptSides.{IsSide-settled, IsSettled-row, IsSettled-edge, IsSettled-loose}
use Rattle.trop_pairs.specs.declared.keeping.Addition.{Addition}
use Rattle.trop_dd.specs.Numbers.{AreNumbers}
use Rattle.trop_dd.specs.Carried.{rows_of, found_rows, IsNext}
use Rattle.trop_dd.specs.Parts.{AreAdditions}
use Rattle.trop_dd.specs.Settled.{ArePut, AreSettled, AreArranged}
use Rattle.trop_dd.specs.Steps.{AreFound}
use Rattle.trop_dd.proofs.Places.{row_read, length-rows}
use Rattle.trop_dd.proofs.Numbers.{number_row, length-found, found_read, found_alike, old_read}

-- a list of length zero
pub none_from_empty : {X : Type 0} (xs : List X) (b : Bool) → b ≡ nat_eq (length xs) 0 → b ≡ true → xs ≡ []
none_from_empty [] b e t = refl
none_from_empty (x ∷ xs) b e t = absurd (omega (arith, eqb-true (length (x ∷ xs)) 0 (sym e ∙ t)))

-- the slots of the first k rows are taken off again
pub record IsTakenBack {V : Type 0} (many : ℕ) (start : List (Side V)) (k : ℕ) (now : List (Side V)) : Type 0 where
  pub long : length now ≡ length start
  pub back : (before : List (Side V)) (additions : List (Addition V)) → ArePut many before additions start →
      (j : ℕ) (d : Side V) → j < k → get_or now j d ≡ get_or before j d
  pub rest : (j : ℕ) (d : Side V) → k ≤ j → get_or now j d ≡ get_or start j d

-- a list with one element replaced
module _ {X : Type 0} (now next : List X) (k : ℕ) (new : X) (within : k < length now) (e : next ≡ set now k new) where
  set_here : (d : X) → get_or next k d ≡ new
  set_here d = ap (λ xs. get_or xs k d) e ∙ get_or-set_same now k new d within

  set_there : (j : ℕ) (d : X) → (j ≡ k → ⊥) → get_or next j d ≡ get_or now j d
  set_there j d ne = ap (λ xs. get_or xs j d) e ∙ get_or-set_other now k j new d ne

  set_long : length next ≡ length now
  set_long = ap length e ∙ length-set now k new

  set_itself : new ≡ get_or now k new → next ≡ now
  set_itself same = same_lists next now set_long (λ j d l. ⊎_elim
      (λ at. ap (λ i. get_or next i d) at ∙ set_here d ∙ same ∙ get_or_default now k new d within
      ∙ ap (λ i. get_or now i d) (sym at))
      (λ ne. set_there j d ne)
      (cases_eq j k))

module _ {V : Type 0} (R : Semiring V) where
  nothing : Addition V
  nothing = record { slot = record { sum = R.zero; tail = 0; head = 0 }; types = 0; alone = 0 }

  pub taken_first : (many : ℕ) (start : List (Side V)) → IsTakenBack many start 0 start
  taken_first many start = record {
    long = refl;
    back = λ before additions h j d l. absurd (omega arith);
    rest =
        λ j d l. refl;
  }

  pub taken_more : (many : ℕ) (start now next : List (Side V)) (k : ℕ) (elem new : Side V) → k < many →
      many ≤ length start → IsTakenBack many start k now → elem ≡ get_or now k elem → next ≡ set now k new →
      ((old : Side V) (slot : Slot V) → IsPut old slot elem → new ≡ old) → IsTakenBack many start (k + 1) next
  taken_more many start now next k elem new lt most h read e undo =
      let within : k < length now = omega (arith, lt, most, h.long) in
      record {
        long = set_long now next k new within e ∙ h.long;
        back = λ before additions p j d l. ⊎_elim
            (λ at.
            let put = p.put k d nothing lt (omega (arith, lt, most, p.many)) in
            ap (λ i. get_or next i d) at ∙ set_here now next k new within e d
            ∙ undo (get_or before k d) (get_or additions k nothing).slot
            (subst (IsPut (get_or before k d) (get_or additions k nothing).slot)
            (sym (read ∙ get_or_default now k elem d within ∙ h.rest k d (omega arith))) put)
            ∙ ap (λ i. get_or before i d) (sym at))
            (λ ne. set_there now next k new within e j d ne ∙ h.back before additions p j d (omega (arith, l, ne)))
            (cases_eq j k);
        rest = λ j d l. set_there now next k new within e j d (λ at. absurd (omega (arith, at, l)))
            ∙ h.rest j d (omega arith);
      }

  pub taken_all : (many k : ℕ) (start now : List (Side V)) → many ≤ k → IsTakenBack many start k now →
      (before : List (Side V)) (additions : List (Addition V)) → ArePut many before additions start → now ≡ before
  taken_all many k start now all h before additions p = same_lists now before (h.long ∙ p.many) (λ j d l. ⊎_elim
      (λ lt. h.back before additions p j d (omega (arith, lt, all)))
      (λ le. ⊎_elim
      (λ lt. h.back before additions p j d lt)
      (λ past. h.rest j d past ∙ p.rest j d le (omega (arith, l, h.long, p.many)))
      (cases_lt j k))
      (cases_lt j many))

  pub put_first : (olds : List (Side V)) (additions : List (Addition V)) → ArePut 0 olds additions olds
  put_first olds additions = record { many = refl; put = λ j d f l. absurd (omega arith); rest = λ j d l lt. refl }

  module _ (olds now next : List (Side V)) (additions : List (Addition V)) (k : ℕ) (elem new : Side V)
      (read : elem ≡ get_or now k elem) (lt : k < length olds) (h : ArePut k olds additions now)
      (e : next ≡ set now k new) where
    within : k < length now
    within = omega (arith, lt, h.many)

    pub put_more : (slot : Slot V) → IsPut elem slot new → ((f : Addition V) → slot ≡ (get_or additions k f).slot) →
        ArePut (k + 1) olds additions next
    put_more slot put is = record {
      many = set_long now next k new within e ∙ h.many;
      put = λ j d f l m. ⊎_elim
          (λ at.
          subst (λ i. IsPut (get_or olds i d) (get_or additions i f).slot (get_or next i d)) (sym at)
          (subst (IsPut (get_or olds k d) (get_or additions k f).slot) (sym (set_here now next k new within e d))
          (subst (λ s. IsPut (get_or olds k d) s new) (is f)
          (subst (λ o. IsPut o slot new) (read ∙ get_or_default now k elem d within ∙ h.rest k d (omega arith) lt)
          put))))
          (λ ne. subst (IsPut (get_or olds j d) (get_or additions j f).slot)
          (sym (set_there now next k new within e j d ne)) (h.put j d f (omega (arith, l, ne)) m))
          (cases_eq j k);
      rest = λ j d l m. set_there now next k new within e j d (λ at. absurd (omega (arith, at, l)))
          ∙ h.rest j d (omega arith) m;
    }

    -- a slot that was not put
    pub put_failed : new ≡ elem → ArePut k olds additions next
    put_failed same = subst (ArePut k olds additions)
        (sym (set_itself now next k new within e (same ∙ read ∙ get_or_default now k elem new within))) h

  pub put_end : (olds now : List (Side V)) (additions : List (Addition V)) (k : ℕ) → length additions ≤ k →
      k ≤ length additions → ArePut k olds additions now → ArePut (length additions) olds additions now
  put_end olds now additions k le ge h =
      let e : k ≡ length additions = omega arith in
      subst (λ m. ArePut m olds additions now) e h

-- the words of the first k rows are settled
pub record IsSettledTo {V : Type 0} (additions : List (Addition V)) (start : List (Side V)) (k : ℕ)
    (now : List (Side V)) : Type 0 where
  pub long : length now ≡ length start
  pub settled : (before : List (Side V)) → ArePut (length additions) before additions start →
      (j : ℕ) (d : Side V) (f : Addition V) → j < k → j < length before →
      IsSettled (get_or before j d) (get_or additions j f).slot (get_or additions j f).types
      (get_or additions j f).alone (get_or now j d)
  pub rest : (j : ℕ) (d : Side V) → k ≤ j → get_or now j d ≡ get_or start j d

module _ {V : Type 0} where
  pub settled_first : (additions : List (Addition V)) (start : List (Side V)) → IsSettledTo additions start 0 start
  settled_first additions start = record {
    long = refl;
    settled = λ before h j d f l. absurd (omega arith);
    rest =
        λ j d l. refl;
  }

  pub settled_all : (additions : List (Addition V)) (start now : List (Side V)) (k : ℕ) → length additions ≤ k →
      k ≤ length additions → IsSettledTo additions start k now → (before : List (Side V)) →
      ArePut (length additions) before additions start → AreSettled before additions now
  settled_all additions start now k le ge h before p = record {
    many = h.long ∙ p.many;
    settled = λ j d f l m. h.settled before p j d f (omega (arith, le, l)) m;
    rest = λ j d l m. h.rest j d (omega (arith, ge, l)) ∙ p.rest j d l m;
  }

  module _ (additions : List (Addition V)) (start now : List (Side V)) (k : ℕ) (lt : k < length start)
      (added : Addition V) (many : k < length additions) (read : added ≡ get_or additions k added)
      (h : IsSettledTo additions start k now) where
    inside_now : k < length now
    inside_now = omega (arith, lt, h.long)

    at_k : (f : Addition V) → added ≡ get_or additions k f
    at_k f = read ∙ get_or_default additions k added f many

    -- what is settled at k, with all before
    one_more : (next : List (Side V)) → length next ≡ length now →
        ((j : ℕ) (d : Side V) → (j ≡ k → ⊥) → get_or next j d ≡ get_or now j d) →
        ((old d : Side V) → IsPut old added.slot (get_or now k d) →
        IsSettled old added.slot added.types added.alone (get_or next k d)) → IsSettledTo additions start (k + 1) next
    one_more next long there here = record {
      long = long ∙ h.long;
      settled = λ before p j d f l m. ⊎_elim
          (λ at.
          subst (λ i. IsSettled (get_or before i d) (get_or additions i f).slot (get_or additions i f).types
          (get_or additions i f).alone (get_or next i d)) (sym at)
          (subst (λ a. IsSettled (get_or before k d) a.slot a.types a.alone (get_or next k d)) (at_k f)
          (here (get_or before k d) d
          (subst (IsPut (get_or before k d) added.slot) (sym (h.rest k d (omega arith)))
          (subst (λ a. IsPut (get_or before k d) a.slot (get_or start k d)) (sym (at_k f))
          (p.put k d f (omega (arith, many)) (omega (arith, at, m))))))))
          (λ ne. subst (IsSettled (get_or before j d) (get_or additions j f).slot (get_or additions j f).types
          (get_or additions j f).alone) (sym (there j d ne)) (h.settled before p j d f (omega (arith, l, ne)) m))
          (cases_eq j k);
      rest = λ j d l. there j d (λ at. absurd (omega (arith, at, l))) ∙ h.rest j d (omega arith);
    }

    pub settled_edge : (next : List (Side V)) (old new : Side V) → HasEdge added.slot → old ≡ get_or now k old →
        next ≡ set now k new → new.row ≡ old.row → new.words.support ≡ old.words.support →
        new.words.types ≡ added.types → ((u : ℕ) → (Has new.words.cover u → ⊥) →
        (Has old.words.cover u → ⊥) × (Has added.alone u → ⊥)) → new.slots ≡ old.slots → new.places ≡ old.places →
        IsSettledTo additions start (k + 1) next
    settled_edge next old new has is e er eu et cover es ep =
        one_more next (set_long now next k new inside_now e) (set_there now next k new inside_now e)
        (λ before d put. subst (IsSettled before added.slot added.types added.alone)
        (sym (set_here now next k new inside_now e d))
        (IsSettled-edge before old new added.slot added.types added.alone
        (subst (IsPut before added.slot) (get_or_default now k d old inside_now ∙ sym is) put) has er eu et cover es
        ep))

    pub settled_loose : (HasEdge added.slot → ⊥) → IsSettledTo additions start (k + 1) now
    settled_loose none = one_more now refl (λ j d ne. refl)
        (λ old d put. IsSettled-loose old (get_or now k d) (get_or now k d) added.slot added.types added.alone put
        none refl)

-- the fresh rows behind are taken off again
pub cut_off : {X : Type 0} (xs ys zs : List X) (many : ℕ) → many ≡ length xs → zs ≡ xs ++ ys → take many zs ≡ xs
cut_off xs ys zs many em e = ap (λ m. take m zs) em ∙ ap (take (length xs)) e
    ∙ take-append-le (length xs) xs ys (omega arith) ∙ take_all (length xs) xs (omega arith)

-- what is carried beside the rows then
module _ {V : Type 0} {R : Semiring V} (laws : SemiringLaws R) (n : ℕ) (system : List (Inequality V)) (p : Inequality V)
    (sides : List (Side V)) (next : IsNext R n system p sides) (additions : List (Addition V))
    (added : AreAdditions R n system p sides (length sides) additions) where
  -- where the rows are the first of a list
  module _ (olds news : List (Side V)) (longer : length sides ≤ length olds)
      (front : (k : ℕ) (d : Side V) → k < length sides → get_or olds k d ≡ get_or sides k d)
      (h : AreSettled olds additions news) (k : ℕ) (d : Side V) (l : k < length sides) where
    abbrev one : Addition V
    one = get_or additions k (nothing R)

    here : IsSettled (get_or sides k d) one.slot one.types one.alone (get_or news k d)
    here = subst (λ s. IsSettled s one.slot one.types one.alone (get_or news k d)) (front k d l)
        (h.settled k d (nothing R) (omega (arith, l, added.many)) (omega (arith, l, longer)))

    settled_at : HoldsOf R p.left p.right (get_or sides k d).row → IsSide R n (system ++ p ∷ []) (get_or news k d)
    settled_at holds =
        let a = added.each k d (nothing R) l holds in
        let side = next.each k d l in
        IsSide-settled laws n system p (get_or sides k d) (get_or news k d) one.slot next.inside next.last side
        ((truth laws p.left p.right (get_or sides k d).row (next.last.left ∙ sym side.solves.wide)
        (next.last.right ∙ sym side.solves.wide)).0 holds)
        a.is_slot one.types one.alone a here

    row_at : (get_or news k d).row ≡ (get_or sides k d).row
    row_at = IsSettled-row (get_or sides k d) (get_or news k d) one.slot one.types one.alone here

  -- where all rows stay
  module _ (news : List (Side V)) (h : AreSettled sides additions news) where
    pub settled_each : ((k : ℕ) (d : Side V) → k < length sides → HoldsOf R p.left p.right (get_or sides k d).row) →
        All (IsSide R n (system ++ p ∷ [])) news
    settled_each hold k d l =
        let lk : k < length sides = omega (arith, l, h.many) in
        settled_at sides news (omega arith) (λ j e m. refl) h k d lk (hold k d lk)

    settled_rows : rows_of news ≡ rows_of sides
    settled_rows = same_lists (rows_of news) (rows_of sides) (length-rows news ∙ h.many ∙ sym (length-rows sides))
        (λ k d l.
        let lk : k < length news = omega (arith, l, length-rows news) in
        let ls : k < length sides = omega (arith, lk, h.many) in
        row_read news k blank d lk ∙ row_at sides news (omega arith) (λ j e m. refl) h k blank ls
        ∙ sym (row_read sides k blank d ls))
      where
        blank : Side V
        blank = record { row = []; words = record { support = 0; types = 0; cover = 0 }; slots = []; places = [] }

    pub settled_found : (order : List ℕ) → found_rows news [] order ≡ found_rows sides [] order
    settled_found order = found_alike news sides order settled_rows

    pub settled_numbers : (order : List ℕ) → AreNumbers (length sides) order → AreNumbers (length news) order
    settled_numbers order = subst (λ m. AreNumbers m order) (sym h.many)

  -- where some are dropped, and new ones found
  module _ (fresh news : List (Side V)) (order numbers : List ℕ) (found : AreFound R n system p sides fresh order)
      (h : AreArranged sides additions fresh order news numbers) where
    longer : length sides ≤ length (sides ++ fresh)
    longer = omega (arith, length-append sides fresh)

    front : (k : ℕ) (d : Side V) → k < length sides → get_or (sides ++ fresh) k d ≡ get_or sides k d
    front k d l = get_or_append_left sides fresh d k l

    -- a fresh row is as it was
    behind : (k : ℕ) (d : Side V) → length sides ≤ k → k < length (sides ++ fresh) →
        get_or h.between k d ≡ get_or (sides ++ fresh) k d
    behind k d le l = h.settled.rest k d (omega (arith, le, added.many)) l

    -- what the number of an index has now
    moved : (i k : ℕ) (d : Side V) → i < length order → get_or numbers i 0 ≡ k →
        get_or news k d ≡ get_or h.between (get_or order i 0) d
    moved i k d l e = ap (λ j. get_or news j d) (sym e) ∙ h.moved.same i d l

    pub arranged_each : All (IsSide R n (system ++ p ∷ [])) news
    arranged_each k d l =
        let c = h.moved.places.all k l in
        let li : c.0 < length order = omega (arith, c.1, h.moved.many) in
        let number = get_or order c.0 0 in
        let lk : number < length (sides ++ fresh) = found.within c.0 0 li in
        subst (IsSide R n (system ++ p ∷ []))
        (sym (moved c.0 k d li (get_or_default numbers c.0 0 k c.1 ∙ c.2))) (⊎_elim
        (λ old. settled_at (sides ++ fresh) h.between longer front h.settled number d old (found.stay c.0 0 li d old))
        (λ new. subst (IsSide R n (system ++ p ∷ []))
        (sym (behind number d new lk ∙ get_or-append_right sides fresh number d new))
        (found.carried (number - length sides) d (omega (arith, lk, new, length-append sides fresh))))
        (cases_lt number (length sides)))

    pub arranged_found : found_rows news [] numbers ≡ found_rows sides fresh order
    arranged_found = same_lists (found_rows news [] numbers) (found_rows sides fresh order)
        (length-found news [] numbers ∙ h.moved.many ∙ sym (length-found sides fresh order)) (λ i d l.
        let ln : i < length numbers = omega (arith, l, length-found news [] numbers) in
        let li : i < length order = omega (arith, ln, h.moved.many) in
        let number = get_or order i 0 in
        let lk : number < length (sides ++ fresh) = found.within i 0 li in
        old_read news numbers i blank d ln (h.moved.places.within i 0 ln)
        ∙ ap (λ s. s.row) (moved i (get_or numbers i 0) blank li refl) ∙ same number lk
        ∙ sym (number_row sides fresh number blank lk) ∙ sym (found_read sides fresh order i d li))
      where
        blank : Side V
        blank = record { row = []; words = record { support = 0; types = 0; cover = 0 }; slots = []; places = [] }

        same : (k : ℕ) → k < length (sides ++ fresh) →
            (get_or h.between k blank).row ≡ (get_or (sides ++ fresh) k blank).row
        same k l = ⊎_elim
            (λ old. row_at (sides ++ fresh) h.between longer front h.settled k blank old
            ∙ ap (λ s. s.row) (sym (front k blank old)))
            (λ new. ap (λ s. s.row) (behind k blank new l))
            (cases_lt k (length sides))
