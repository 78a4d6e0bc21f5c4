-- From the rows that were found to the canonical list of the smaller cone.
--   found_at_start, within_at_start: the rows that stay
--   narrowed_describes, narrowed_counts: once all pairs were tried
--   kept_describes, all_hold_at, counts_none: where none is dropped
--   grows_none, grows_more, grows_one, given_stays, tried_more, tried_kept_more: one more pair, or row
--   over_limit, rows_put, found_more: more rows than the limit; one more row
use Rattle.std.proofs.Common.{◌≡◌, ◌≢◌, ◌<◌, ◌≤◌, ◌+◌, ◌^◌, ℕ, min, List, [], ◌∷◌, ◌++◌, length, take, ⊎_elim, sym, ap, ◌∙◌, arith, subst, get_or}
use Rattle.std.proofs.lemmas.List.{append-nil, get_or_default, length-append}
use Rattle.std.proofs.lemmas.List.Edits.{length-insert}
use Rattle.std.specs.Prelude.{All, AllPairs, Contains, Option, Some, None, MatchOption, insert}
use Rattle.std.proofs.lemmas.List.Elements.{All-nil, All-head, All-push, All-contains, All-contains_itself, All-more, All-weaker, Contains-get_or}
use Rattle.trop_theory.specs.Semiring.{Semiring, SemiringLaws}
use Rattle.trop_theory.specs.Vectors.{dot}
use Rattle.trop_theory.specs.Normal.{IsNormal}
use Rattle.trop_theory.specs.Inequalities.{Inequality, Solves}
use Rattle.trop_theory.specs.Extreme.{IsExtreme}
use Rattle.trop_theory.specs.Canonical.{RowBelow, row_limit, IsOverLimit}
use Rattle.trop_theory.proofs.Truth.{HoldsOf}
use Rattle.trop_theory.proofs.Narrower.{IsNarrowed, narrowed_canonical, narrowed_generates, kept_stays_extreme}
use Rattle.trop_theory.proofs.Distinct.{ascending_distinct, fresh_and_kept}
use Rattle.plain_lemmas.proofs.Distinct.{no_longer}
use Rattle.trop_pruning.specs.Pairs.{GivesTyped}
use Rattle.trop_pruning.specs.Judged.{Side, IsSide}
use Rattle.trop_pruning.proofs.Completeness.{narrowed_from_typed}
use Rattle.trop_dd.specs.declared.splitting.Kept.{Kept}
use Rattle.trop_dd.specs.declared.splitting.Dropped.{Dropped}
use Rattle.trop_dd.specs.Description.{Describes, CountsNew}
use Rattle.trop_dd.specs.Carried.{rows_of, found_rows, IsNext}
use Rattle.trop_dd.specs.Parts.{IsSplit}
use Rattle.trop_dd.specs.Steps.{AreFound, Grows, HasGiven}
use Rattle.trop_dd.proofs.Places.{row_read, length-rows, Contains-row}
use Rattle.trop_dd.proofs.Numbers.{length-found, old_read, found-put, more_numbers}
use Rattle.trop_dd.proofs.Starts.{IsStart}
use Rattle.trop_theory.proofs.Placing.{only_placed}

module _ {V : Type 0} {R : Semiring V} (laws : SemiringLaws R) (n : ℕ) (system : List (Inequality V)) (p : Inequality V)
    (sides : List (Side V)) (next : IsNext R n system p sides) (stay : List ℕ) (kept : List (Kept V))
    (dropped : List (Dropped V)) (split : IsSplit R p sides (length sides) stay kept dropped) where
  blank : Side V
  blank = record { row = []; words = record { support = 0; types = 0; cover = 0 }; slots = []; places = [] }

  -- a row has a place, and each place its row
  placed : (v : List V) → Contains next.rows v → Contains (rows_of sides) v
  placed v c = All-contains (Contains (rows_of sides)) next.rows v next.beside c

  row_in : (k : ℕ) → k < length sides → Contains next.rows (get_or sides k blank).row
  row_in k l = All-contains (Contains next.rows) (rows_of sides) (get_or sides k blank).row next.only
      (Contains-row sides k blank l)

  -- where no row is dropped all stay
  module _ (none : dropped ≡ []) where
    all_hold : (v : List V) → Contains next.rows v → HoldsOf R p.left p.right v
    all_hold v among = ⊎_elim
        (λ h. h)
        (λ f.
        let c = placed v among in
        let lk : c.0 < length sides = omega (arith, c.1, length-rows sides) in
        let here : (get_or sides c.0 blank).row ≡ v = sym (row_read sides c.0 blank v lk) ∙ c.2 in
        let some = split.dropped_all c.0 blank lk (λ h. f (subst (HoldsOf R p.left p.right) here h)) in
        absurd (omega (arith, some.2, ap length none)))
        (laws.discrete (R.plus (dot R p.left v) (dot R p.right v)) (dot R p.right v))

    kept_narrowed : IsNarrowed laws n system p next.rows next.rows
    kept_narrowed = narrowed_from_typed laws n system p next.rows next.inside next.last next.described.canonical
        next.described.generates next.rows next.described.canonical.ascending next.described.canonical.normal
        (λ k d l. kept_stays_extreme laws n system p (get_or next.rows k d) next.last
        (next.described.canonical.extreme k d l)
        (all_hold (get_or next.rows k d) (Contains-get_or next.rows k d l)))
        (λ v c h. c)
        (λ v w x t cv cw holds finite fails g. absurd (fails (all_hold w cw)))

    pub kept_describes : Describes R n (system ++ p ∷ []) next.rows
    kept_describes = record {
      canonical = narrowed_canonical laws n system p next.rows
          next.rows next.last next.described.canonical next.described.generates kept_narrowed;
      generates = narrowed_generates laws n system p next.rows
          next.rows next.last next.described.canonical next.described.generates kept_narrowed;
      within = next.described.within;
    }

    pub all_hold_at : (k : ℕ) (d : Side V) → k < length sides → HoldsOf R p.left p.right (get_or sides k d).row
    all_hold_at k d l = all_hold (get_or sides k d).row
        (All-contains (Contains next.rows) (rows_of sides) (get_or sides k d).row next.only (Contains-row sides k d l))

  -- where some are dropped, those that stay are known by their numbers
  module _ (start : List ℕ) (starts : IsStart R p sides start) where
    -- the rows that stay
    abbrev rows : List (List V)
    rows = found_rows sides [] start

    long : length rows ≡ length start
    long = length-found sides [] start

    start_row : (i : ℕ) (e : List V) → i < length start → get_or rows i e ≡ (get_or sides (get_or start i 0) blank).row
    start_row i e l = old_read sides start i blank e l (starts.each i 0 l).0

    rows_from : All (λ v. Contains next.rows v × HoldsOf R p.left p.right v) rows
    rows_from i d l =
        let li : i < length start = omega (arith, l, long) in (
          subst (Contains next.rows) (sym (start_row i d li)) (row_in (get_or start i 0) (starts.each i 0 li).0),
          subst (HoldsOf R p.left p.right) (sym (start_row i d li)) ((starts.each i 0 li).1 blank),
        )

    rows_all : (v : List V) → Contains next.rows v → HoldsOf R p.left p.right v → Contains rows v
    rows_all v among h =
        let c = placed v among in
        let lk : c.0 < length sides = omega (arith, c.1, length-rows sides) in
        let here : (get_or sides c.0 blank).row ≡ v = sym (row_read sides c.0 blank v lk) ∙ c.2 in
        let s = starts.all c.0 blank lk (subst (HoldsOf R p.left p.right) (sym here) h) in (
          s.0,
          omega (arith, s.1, long),
          start_row s.0 v s.1 ∙ ap (λ k. (get_or sides k blank).row)
              (get_or_default start s.0 0 c.0 s.1 ∙ s.2) ∙ here,
        )

    -- the rows at which the inequality is true are extreme in the smaller cone
    pub found_at_start : (fresh : List (Side V)) → fresh ≡ [] → AreFound R n system p sides fresh start
    found_at_start fresh e = subst (λ f. AreFound R n system p sides f start) (sym e) (record {
      within = λ i d l. subst (λ s. get_or start i d < length s) (sym (append-nil sides)) (starts.each i d l).0;
      stay = λ i d l f lt. (starts.each i d l).1 f;
      few = omega arith;
      carried = All-nil (IsSide R n (system ++ p ∷ []));
      ascending = starts.ascending;
      normal = λ k d l. All-contains (IsNormal R) next.rows (get_or rows k d) next.described.canonical.normal
          (rows_from k d l).0;
      extreme = λ k d l. kept_stays_extreme laws n system p (get_or rows k d) next.last
          (All-contains (IsExtreme R (Solves R n system)) next.rows
          (get_or rows k d) next.described.canonical.extreme (rows_from k d l).0)
          (rows_from k d l).1;
    })

    pub within_at_start : length start ≤ row_limit
    within_at_start = omega (
      arith,
      long,
      no_longer rows next.rows (ascending_distinct R rows starts.ascending)
          (λ k d l. (rows_from k d l).0),
      next.described.within,
    )

    module _ (first fresh : List (Side V)) (order : List ℕ) (before after : ℕ) (none : first ≡ [])
        (found : AreFound R n system p sides fresh order)
        (grown : Grows (found_rows sides first start) (found_rows sides fresh order) before after)
        (tried : All (λ part. All (HasGiven R n system p sides (found_rows sides fresh order) part) dropped) kept) where
      abbrev new : List (List V)
      new = found_rows sides fresh order

      grows : Grows rows new before after
      grows = subst (λ f. Grows (found_rows sides f start) new before after) none grown

      contains_stay : (v : List V) → Contains next.rows v → HoldsOf R p.left p.right v → Contains new v
      contains_stay v c h = All-contains (Contains new) rows v grows.stay (rows_all v c h)

      from_pair : (v w x : List V) (t : ℕ) → Contains next.rows v → Contains next.rows w →
          HoldsOf R p.left p.right v → dot R p.right v ≢ R.zero → (HoldsOf R p.left p.right w → ⊥) →
          GivesTyped R n system p v w x t → Contains new x
      from_pair v w x t in_v in_w holds finite fails g =
          let cv = placed v in_v in
          let cw = placed w in_w in
          let lv : cv.0 < length sides = omega (arith, cv.1, length-rows sides) in
          let lw : cw.0 < length sides = omega (arith, cw.1, length-rows sides) in
          let here_v : v ≡ (get_or sides cv.0 blank).row = sym cv.2 ∙ row_read sides cv.0 blank v lv in
          let here_w : w ≡ (get_or sides cw.0 blank).row = sym cw.2 ∙ row_read sides cw.0 blank w lw in
          let first = split.kept_all cv.0 blank lv (subst (HoldsOf R p.left p.right) here_v holds)
          (λ z. finite (ap (dot R p.right) here_v ∙ z)) in
          let second = split.dropped_all cw.0 blank lw (λ s. fails (subst (HoldsOf R p.left p.right) (sym here_w) s)) in
          let at_v : v ≡ (get_or sides first.1.place blank).row =
          here_v ∙ ap (λ k. (get_or sides k blank).row) (sym first.4) in
          let at_w : w ≡ (get_or sides second.1.place blank).row =
          here_w ∙ ap (λ k. (get_or sides k blank).row) (sym second.4) in
          All-contains (HasGiven R n system p sides new first.1) dropped second.1
          (All-contains (λ part. All (HasGiven R n system p sides new part) dropped) kept first.1 tried
          (first.0, first.2, first.3))
          (second.0, second.2, second.3) blank blank x t
          (subst (λ y. GivesTyped R n system p y (get_or sides second.1.place blank).row x t) at_v
          (subst (λ y. GivesTyped R n system p v y x t) at_w g))

      is_narrowed : IsNarrowed laws n system p next.rows new
      is_narrowed = narrowed_from_typed laws n system p next.rows next.inside next.last next.described.canonical
          next.described.generates new found.ascending found.normal found.extreme contains_stay from_pair

      -- the rows that were found describe the longer system
      pub narrowed_describes : length order ≤ row_limit → Describes R n (system ++ p ∷ []) new
      narrowed_describes l = record {
        canonical = narrowed_canonical laws n system p next.rows new next.last next.described.canonical
            next.described.generates is_narrowed;
        generates = narrowed_generates laws n system p next.rows new next.last next.described.canonical
            next.described.generates is_narrowed;
        within = omega (arith, l, length-found sides fresh order);
      }

      -- and each new one was looked at
      pub narrowed_counts : CountsNew R (rows_of sides) new before after
      narrowed_counts others ascending inside apart =
          let both = fresh_and_kept R next.rows new others rows ascending inside
          (λ k d l c. apart k d l (placed (get_or others k d) c)) starts.ascending grows.stay
          (λ k d l. (rows_from k d l).0) in
          omega (arith, both, grows.counted)

-- no row is new
pub counts_none : {V : Type 0} (R : Semiring V) (rows : List (List V)) (before after : ℕ) → before ≤ after →
    CountsNew R rows rows before after
counts_none R rows before after l [] ascending inside apart = omega arith
counts_none R rows before after l (x ∷ others) ascending inside apart =
    absurd (All-head (λ y. Contains rows y → ⊥) x others apart (All-head (Contains rows) x others inside))

pub counts_later : {V : Type 0} (R : Semiring V) (old new : List (List V)) (before between after : ℕ) →
    before ≤ between → CountsNew R old new between after → CountsNew R old new before after
counts_later R old new before between after l h fresh ascending inside apart = let few =
    h fresh ascending inside apart in omega arith

-- where others have the old rows
pub counts_among : {V : Type 0} (R : Semiring V) (old others new_rows : List (List V)) (before after : ℕ) →
    All (Contains others) old → CountsNew R old new_rows before after → CountsNew R others new_rows before after
counts_among R old others new_rows before after among h fresh ascending inside apart = h fresh ascending inside
    (λ k d l c. apart k d l (All-contains (Contains others) old (get_or fresh k d) among c))

-- what is said of an answer that may be none
pub match_rows : {X : Type 0} (o : Option X) (A B : Type 0) (P Q : X → Type 0) → (A → B) → ((x : X) → P x → Q x) →
    MatchOption o A P → MatchOption o B Q
match_rows None A B P Q f g h = f h
match_rows (Some x) A B P Q f g h = g x h

module _ {V : Type 0} where
  pub grows_none : (rows : List (List V)) (before after : ℕ) → before ≤ after → Grows rows rows before after
  grows_none rows before after l = record { stay = All-contains_itself rows; counted = omega arith }

  pub grows_more : (a b c : List (List V)) (i j k : ℕ) → Grows a b i j → Grows b c j k → j ≤ k → Grows a c i k
  grows_more a b c i j k h t l = record {
    stay = λ m d lt. All-contains (Contains c) b (get_or a m d) t.stay (h.stay m d lt);
    counted = omega (arith, h.counted, t.counted);
  }

  -- one look, and one more row at most
  pub grows_one : (old new : List (List V)) (before between after : ℕ) → All (Contains new) old →
      length new ≤ length old + 1 → min (before + 1) (2 ^ 62) ≤ between → between ≤ after → Grows old new before after
  grows_one old new before between after s l looked later = record { stay = s; counted = omega arith }

module _ {V : Type 0} (R : Semiring V) (n : ℕ) (system : List (Inequality V)) (p : Inequality V)
    (sides : List (Side V)) where
  pub given_stays : (old new : List (List V)) (kept : Kept V) (dropped : Dropped V) → All (Contains new) old →
      HasGiven R n system p sides old kept dropped → HasGiven R n system p sides new kept dropped
  given_stays old new kept dropped s h d e x t g = All-contains (Contains new) old x s (h d e x t g)

  -- one more dropped row was tried
  pub tried_more : (old new : List (List V)) (kept : Kept V) (dropped : List (Dropped V)) (i : ℕ) (part : Dropped V) →
      i < length dropped → part ≡ get_or dropped i part → All (Contains new) old →
      All (HasGiven R n system p sides old kept) (take i dropped) → HasGiven R n system p sides new kept part →
      All (HasGiven R n system p sides new kept) (take (i + 1) dropped)
  tried_more old new kept dropped i part l e s h t =
      All-more (HasGiven R n system p sides new kept) dropped i part l
      (All-weaker (HasGiven R n system p sides old kept) (HasGiven R n system p sides new kept)
      (λ q. given_stays old new kept q s) (take i dropped) h)
      (subst (HasGiven R n system p sides new kept) e t)

  -- one more kept row was tried
  pub tried_kept_more : (old new : List (List V)) (kept : List (Kept V)) (dropped : List (Dropped V)) (i : ℕ)
      (part : Kept V) → i < length kept → part ≡ get_or kept i part → All (Contains new) old →
      All (λ first. All (HasGiven R n system p sides old first) dropped) (take i kept) →
      All (HasGiven R n system p sides new part) dropped →
      All (λ first. All (HasGiven R n system p sides new first) dropped) (take (i + 1) kept)
  tried_kept_more old new kept dropped i part l e s h t =
      All-more (λ first. All (HasGiven R n system p sides new first) dropped) kept i part l
      (All-weaker (λ first. All (HasGiven R n system p sides old first) dropped)
      (λ first. All (HasGiven R n system p sides new first) dropped)
      (λ first. All-weaker (HasGiven R n system p sides old first) (HasGiven R n system p sides new first)
      (λ q. given_stays old new first q s) dropped) (take i kept) h)
      (subst (λ first. All (HasGiven R n system p sides new first) dropped) e t)

-- more rows than the limit
pub over_limit : {V : Type 0} (R : Semiring V) (n : ℕ) (system : List (Inequality V)) (p : Inequality V)
    (sides fresh : List (Side V)) (order : List ℕ) → AreFound R n system p sides fresh order → 4096 < length order →
    IsOverLimit R (Solves R n (system ++ p ∷ []))
over_limit R n system p sides fresh order h many =
    record {
      rows = found_rows sides fresh order;
      ascending = h.ascending;
      normal = h.normal;
      extreme =
          h.extreme;
      many = subst (λ m. 4096 < m) (sym (length-found sides fresh order)) many;
    }

module _ {V : Type 0} (R : Semiring V) (n : ℕ) (system : List (Inequality V)) (p : Inequality V)
    (sides before beside : List (Side V)) (order new : List ℕ) (place number : ℕ) (row : List V) (side : Side V)
    (h : AreFound R n system p sides before order) (e : number ≡ length sides + length before)
    (en : new ≡ insert order place number) (eb : beside ≡ before ++ side ∷ []) (same : side.row ≡ row) where
  pub rows_put : found_rows sides beside new ≡ insert (found_rows sides before order) place row
  rows_put = found-put sides before side number e order new beside place h.within en eb
      ∙ ap (insert (found_rows sides before order) place) same

  -- the rows that were found, with one more
  pub found_more : place ≤ length order → IsSide R n (system ++ p ∷ []) side →
      AllPairs (RowBelow R) (insert (found_rows sides before order) place row) → IsNormal R row →
      IsExtreme R (Solves R n (system ++ p ∷ [])) row → AreFound R n system p sides beside new
  found_more within is ascending normal extreme = record {
    within = λ k d l. ⊎_elim
        (λ c. omega (arith, longer, All-contains (λ i. i < length (sides ++ before)) order (get_or new k d) h.within c))
        (λ here. omega (arith, longer, here, e, length-append sides before))
        (only_placed order new place number en k d l);
    stay = λ k d l f lt. ⊎_elim
        (λ c. All-contains (λ i. (g : Side V) → i < length sides → HoldsOf R p.left p.right (get_or sides i g).row)
        order (get_or new k d) h.stay c f lt)
        (λ here. absurd (omega (arith, here, e, lt)))
        (only_placed order new place number en k d l);
    few = omega (
      arith,
      h.few,
      ap length eb,
      length-append before (side ∷ []),
      ap length en,
      length-insert order place number within,
    );
    carried = subst (All (IsSide R n (system ++ p ∷ []))) (sym eb)
        (All-push (IsSide R n (system ++ p ∷ [])) before side h.carried is);
    ascending = subst (AllPairs (RowBelow R)) (sym rows_put) ascending;
    normal = λ k d l. ⊎_elim (λ c. All-contains (IsNormal R) (found_rows sides before order)
        (get_or (found_rows sides beside new) k d) h.normal c) (λ here. subst (IsNormal R) (sym here) normal)
        (only_placed (found_rows sides before order) (found_rows sides beside new) place row rows_put k d l);
    extreme = λ k d l. ⊎_elim (λ c. All-contains (IsExtreme R (Solves R n (system ++ p ∷ [])))
        (found_rows sides before order) (get_or (found_rows sides beside new) k d) h.extreme c)
        (λ here. subst (IsExtreme R (Solves R n (system ++ p ∷ []))) (sym here) extreme)
        (only_placed (found_rows sides before order) (found_rows sides beside new) place row rows_put k d l);
  }
    where
      longer : length (sides ++ beside) ≡ length (sides ++ before) + 1
      longer = ap (λ b. length (sides ++ b)) eb ∙ more_numbers sides before side number e
