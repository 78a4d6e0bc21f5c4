-- A kept and a dropped row with what is carried beside them, and the row that they give.
--   normal_form_unique: a vector has one normal form
--   fit, kept_sizes: the two rows of a pair, as they are read at their places
--   has_given, none_given, rejected_given, faded_given, some_given: what has to be found of what they give
--   left_size .. right_fits .. sum_at, is_factor, slot_size: sizes, and the multiple that makes the sum normal
--   normalises .. is_cover, has_edge, first_fits, second_fits: the new row and what is carried beside it
--   kept_tail, rejected_at, no_type_given: pairs that words reject
use Rattle.std.proofs.Common.{◌≡◌, ◌≢◌, ◌⊎◌, ◌<◌, ◌≤◌, ◌+◌, ◌^◌, ℕ, List, [], ◌∷◌, ◌++◌, length, inl, inr, ⊎_elim, sym, ap, ◌∙◌, arith, subst, get_or, ap₂}
use Rattle.std.specs.Prelude.{All, Contains, ◌↔◌, None}
use Rattle.std.proofs.lemmas.List.{length-map, get_or_default, get_or_past}
use Rattle.std.proofs.lemmas.Bool.{cases_lt}
use Rattle.trop_theory.specs.Semiring.{Semiring, SemiringLaws}
use Rattle.trop_theory.specs.Vectors.{entry, scaled, joined, dot, row_size}
use Rattle.trop_theory.specs.Normal.{IsNormal, Normalises}
use Rattle.trop_theory.specs.Inequalities.{Inequality, Solves, IsIn}
use Rattle.trop_theory.specs.Extreme.{IsExtreme}
use Rattle.trop_theory.specs.Steps.{mixed}
use Rattle.trop_theory.proofs.Truth.{HoldsOf}
use Rattle.trop_theory.proofs.Order.{times_zero}
use Rattle.trop_theory.proofs.Canonical.{same_from_multiple}
use Rattle.trop_theory.proofs.Generation.{undo_normal}
use Rattle.trop_theory.proofs.Rows.{entry-scaled, scaled-scaled, scaled-joined}
use Rattle.trop_theory.proofs.Sizes.{size-entry}
use Rattle.trop_theory.proofs.Narrower.{mixed_solves}
use Rattle.trop_criterion.specs.Hypergraphs.{Has, Hyperedge}
use Rattle.trop_criterion.specs.Tangents.{Attains}
use Rattle.trop_pruning.specs.Slots.{Slot, IsSlot}
use Rattle.trop_pruning.specs.Open.{IsOpen, IsCover}
use Rattle.trop_pruning.specs.PairEdges.{HasEdge}
use Rattle.trop_pruning.specs.Pairs.{Words, GivesTyped, AreTypes, IsRejected}
use Rattle.trop_pruning.specs.Judged.{Side, IsSide, IsJudged}
use Rattle.trop_pruning.specs.Merged.{IsNormalMix}
use Rattle.trop_pruning.proofs.NewSlots.{IsSlot-mixed, right-mixed}
use Rattle.trop_pruning.proofs.Sums.{some_attains}
use Rattle.trop_pruning.proofs.MixedSums.{entry-mix, length-mix}
use Rattle.trop_pruning.proofs.MixedSlots.{IsSlot-scaled}
use Rattle.trop_pruning.proofs.PairTest.{support-mix, rejected_gives_none}
use Rattle.trop_pruning.proofs.Judged.{pair_edge, pair_finite, pair_mixed}
use Rattle.trop_pruning.proofs.Completeness.{judged_none, judged_some}
use Rattle.trop_pruning.proofs.Covers.{IsCover-edges}
use Rattle.trop_dd.specs.declared.splitting.Kept.{Kept}
use Rattle.trop_dd.specs.declared.splitting.Dropped.{Dropped}
use Rattle.trop_dd.specs.Carried.{IsNext}
use Rattle.trop_dd.specs.Parts.{IsKept, IsDropped}
use Rattle.trop_dd.specs.Steps.{HasGiven, IsFit, IsGiven, IsFactor, AreMultiples}
use Rattle.trop_dd.proofs.Sizes.{size-dot}
use Rattle.trop_dd.proofs.Places.{slot_sizes, side_at, normal_at, size_at}

module _ {V : Type 0} {R : Semiring V} (laws : SemiringLaws R) where
  -- a vector has one normal form
  pub normal_form_unique : (old x y : List V) → Normalises R old x → Normalises R old y → x ≡ y
  normal_form_unique old x y hx hy =
      same_from_multiple laws 0 x y (R.times hx.factor (R.inverse hy.factor)) hx.normal hy.normal
      (hx.multiple ∙ ap (scaled R hx.factor) (sym (undo_normal laws old y hy)) ∙ scaled-scaled laws hx.factor
      (R.inverse hy.factor) y)

  module _ (n : ℕ) (system : List (Inequality V)) (p : Inequality V) (sides : List (Side V))
      (next : IsNext R n system p sides) (kept : Kept V) (dropped : Dropped V) (k : IsKept R p sides kept)
      (h : IsDropped R p sides dropped) (v w : Side V) (v_read : v ≡ get_or sides kept.place v)
      (w_read : w ≡ get_or sides dropped.place w) where
    side_v : IsSide R n system v
    side_v = subst (IsSide R n system) (sym v_read) (side_at laws n system p sides next kept.place v k.within)

    side_w : IsSide R n system w
    side_w = subst (IsSide R n system) (sym w_read) (side_at laws n system p sides next dropped.place w h.within)

    same : length v.row ≡ length w.row
    same = side_v.solves.wide ∙ sym side_w.solves.wide

    sides_of : IsIn (length v.row) p
    sides_of = record {
      left = next.last.left ∙ sym side_v.solves.wide;
      right =
          next.last.right ∙ sym side_v.solves.wide;
    }

    holds : HoldsOf R p.left p.right v.row
    holds = subst (λ s. HoldsOf R p.left p.right s.row) (sym v_read) (k.holds v)

    fails : HoldsOf R p.left p.right w.row → ⊥
    fails t = h.fails w (subst (λ s. HoldsOf R p.left p.right s.row) w_read t)

    left : dropped.sum ≡ dot R p.left w.row
    left = h.is_sum w ∙ ap (λ s. dot R p.left s.row) (sym w_read)

    slot_v : IsSlot R v.row p kept.slot
    slot_v = subst (λ s. IsSlot R s.row p kept.slot) (sym v_read) (k.is_slot v)

    finite : dot R p.right v.row ≢ R.zero
    finite z = k.finite (slot_v.sum ∙ z)

    reaches : (i : ℕ) → Has dropped.reached i ↔ Attains R p.left w.row i
    reaches i = subst (λ s. Has dropped.reached i ↔ Attains R p.left s.row i) (sym w_read) (h.reaches w i)

    pub fit : (m : V) → m ≡ kept.slot.sum → (slot : Slot V) → slot.sum ≡ R.times dropped.sum kept.slot.sum →
        ((j : ℕ) → Has slot.tail j ↔ Has kept.slot.tail j) →
        ((i : ℕ) → Has slot.head i ↔ (Has kept.slot.head i ⊎ Has dropped.reached i)) →
        IsFit R n system p v w dropped.sum m slot
    fit m em slot sum tail head = record {
      pair = record {
        inside = next.inside;
        last = next.last;
        first = side_v;
        second = side_w;
        holds = holds;
        fails = fails;
        left = left;
        right = em ∙ slot_v.sum;
        finite = λ z. k.finite (sym em ∙ z);
        new_slot = IsSlot-mixed laws p v.row w.row same sides_of holds finite fails kept.slot slot slot_v
            (sum ∙ ap (λ a. R.times a kept.slot.sum) left) tail (λ i. (
              λ t. ⊎_elim (λ a. inl a) (λ b. inr ((reaches i).0 b)) ((head i).0 t),
              λ t. (head i).1 (⊎_elim (λ a. inl a) (λ b. inr ((reaches i).1 b)) t),
            ));
      };
      normal = subst (λ s. IsNormal R s.row) (sym w_read)
          (normal_at laws n system p sides next dropped.place w h.within);
      size = next.size;
      last_size = next.last_size;
      first_size = subst (λ s. row_size R s.row ≤ 2 ^ 57) (sym v_read)
          (size_at laws n system p sides next kept.place v k.within);
      second_size = subst (λ s. row_size R s.row ≤ 2 ^ 57) (sym w_read)
          (size_at laws n system p sides next dropped.place w h.within);
      solves = λ x m. mixed_solves laws n system p next.rows v.row w.row x next.last next.described.generates
          side_v.solves side_w.solves (λ i d l. (next.described.canonical.extreme i d l).member.wide) holds fails m;
    }

    -- the sums of both can be multiplied
    pub kept_sizes : R.size dropped.sum + R.size kept.slot.sum ≤ 2 ^ 62
    kept_sizes =
        let sv : row_size R v.row ≤ 2 ^ 57 = subst (λ s. row_size R s.row ≤ 2 ^ 57) (sym v_read)
        (size_at laws n system p sides next kept.place v k.within) in
        let sw : row_size R w.row ≤ 2 ^ 57 = subst (λ s. row_size R s.row ≤ 2 ^ 57) (sym w_read)
        (size_at laws n system p sides next dropped.place w h.within) in
        omega (
          arith,
          ap R.size left,
          ap R.size slot_v.sum,
          size-dot laws p.left w.row,
          size-dot laws p.right v.row,
          sv,
          sw,
          next.last_size,
        )

    -- what is known of the two rows is known of those at their places
    pub has_given : (found : List (List V)) → ((x : List V) (t : ℕ) → GivesTyped R n system p v.row w.row x t →
        Contains found x) → HasGiven R n system p sides found kept dropped
    has_given found f d e x t g = f x t
        (subst (λ s. GivesTyped R n system p s.row w.row x t)
        (get_or_default sides kept.place d v k.within ∙ sym v_read)
        (subst (λ s. GivesTyped R n system p (get_or sides kept.place d).row s.row x t)
        (get_or_default sides dropped.place e w h.within ∙ sym w_read) g))

    pub none_given : (found : List (List V)) → IsJudged R n system p v.row w.row None →
        HasGiven R n system p sides found kept dropped
    none_given found none = has_given found (λ x t g. absurd (judged_none laws n system p v.row w.row none x t g))

    pub rejected_given : (found : List (List V)) → IsRejected v.words w.words kept.slot.tail →
        HasGiven R n system p sides found kept dropped
    rejected_given found r = has_given found (λ x t g.
        absurd (rejected_gives_none laws n system p v.row w.row x t next.inside next.last side_v.solves side_w.solves
        holds finite fails v.words w.words side_v.words side_w.words kept.slot.tail
        (λ j. (λ t. ((slot_v.tail j).0 t).1, λ a. (slot_v.tail j).1 (finite, a))) g r))

    pub faded_given : (found : List (List V)) →
        ((x : List V) (t : ℕ) → GivesTyped R n system p v.row w.row x t → ⊥) →
        HasGiven R n system p sides found kept dropped
    faded_given found none = has_given found (λ x t g. absurd (none x t g))

    pub some_given : (found : List (List V)) → ((x : List V) → Normalises R (mixed R p.left p.right v.row w.row) x →
        Contains found x) → HasGiven R n system p sides found kept dropped
    some_given found all = has_given found (λ x t g. all x g.normalises)

  module _ (n : ℕ) (system : List (Inequality V)) (p : Inequality V) (v w : Side V) (l m : V) (slot : Slot V)
      (h : IsFit R n system p v w l m slot) where
    pub same_lengths : length v.row ≡ length w.row
    same_lengths = h.pair.first.solves.wide ∙ sym h.pair.second.solves.wide

    pub left_size : R.size l ≤ 2 ^ 58
    left_size = omega (arith, ap R.size h.pair.left, size-dot laws p.left w.row, h.second_size, h.last_size)

    pub right_size : R.size m ≤ 2 ^ 58
    right_size = omega (arith, ap R.size h.pair.right, size-dot laws p.right v.row, h.first_size, h.last_size)

    pub first_slots : All (λ s. R.size s.sum ≤ 2 ^ 58) v.slots
    first_slots = slot_sizes laws n system v h.pair.first h.first_size h.size

    pub second_slots : All (λ s. R.size s.sum ≤ 2 ^ 58) w.slots
    second_slots = slot_sizes laws n system w h.pair.second h.second_size h.size

    pub fits : (c : V) → R.size c ≤ 2 ^ 61 → (slots : List (Slot V)) → All (λ s. R.size s.sum ≤ 2 ^ 58) slots →
        All (λ s. R.size c + R.size s.sum ≤ 2 ^ 62) slots
    fits c small slots all k d lt = omega (arith, small, all k d lt)

    pub left_fits : All (λ s. R.size l + R.size s.sum ≤ 2 ^ 62) v.slots
    left_fits = fits l (omega (arith, left_size)) v.slots first_slots

    pub right_fits : All (λ s. R.size m + R.size s.sum ≤ 2 ^ 62) w.slots
    right_fits = fits m (omega (arith, right_size)) w.slots second_slots

    -- both rows have the coordinates in common
    module _ (nodes : ℕ) (in_nodes : (i : ℕ) → Has nodes i ↔ (Has v.words.support i ⊎ Has w.words.support i)) where
      pub some_node : ((i : ℕ) → Has nodes i → ⊥) → ⊥
      some_node none = none h.normal.first ((in_nodes h.normal.first).1
          (inr ((h.pair.second.words.support h.normal.first).1 (λ z. laws.one_finite (sym h.normal.is_one ∙ z)))))

      entry_finite : (i : ℕ) → Has nodes i → entry R (joined R (scaled R l v.row) (scaled R m w.row)) i ≢ R.zero
      entry_finite i here =
          let f = pair_finite laws n system p v w l m slot h.pair in
          (support-mix laws v.row w.row l m i same_lengths f.0 f.1).1
          (⊎_elim (λ a. inl ((h.pair.first.words.support i).0 a)) (λ b. inr ((h.pair.second.words.support i).0 b))
          ((in_nodes i).0 here))

      entry_zero : (i : ℕ) → (Has nodes i → ⊥) → entry R (joined R (scaled R l v.row) (scaled R m w.row)) i ≡ R.zero
      entry_zero i out =
          let f = pair_finite laws n system p v w l m slot h.pair in
          ⊎_elim (λ z. z) (λ g. absurd (out ((in_nodes i).1
          (⊎_elim (λ a. inl ((h.pair.first.words.support i).1 a)) (λ b. inr ((h.pair.second.words.support i).1 b))
          ((support-mix laws v.row w.row l m i same_lengths f.0 f.1).0 g)))))
          (laws.discrete (entry R (joined R (scaled R l v.row) (scaled R m w.row)) i) R.zero)

      pub node_within : (i : ℕ) → Has nodes i → i < length v.row
      node_within i here = ⊎_elim (λ lt. lt)
          (λ ge. absurd (entry_finite i here (get_or_past (joined R (scaled R l v.row) (scaled R m w.row)) i R.zero
          (omega (arith, ge, length-mix laws v.row w.row l m same_lengths)))))
          (cases_lt i (length v.row))

      pub sum_at : (i : ℕ) → Has nodes i → R.plus (R.times l (entry R v.row i)) (R.times m (entry R w.row i)) ≢ R.zero
      sum_at i here z = entry_finite i here (entry-mix laws v.row w.row l m same_lengths i ∙ z)

      pub is_factor : (i : ℕ) → Has nodes i → ((j : ℕ) → j < i → Has nodes j → ⊥) → (by : V) →
          by ≡ R.inverse (R.plus (R.times l (entry R v.row i)) (R.times m (entry R w.row i))) →
          IsFactor R l m v.row w.row by
      is_factor i here before by e = record {
        finite = λ z. laws.one_finite (sym one ∙ ap (λ c. R.times c sum) z ∙ laws.zero_absorbs sum);
        normal = record {
          first = i;
          within = omega (
            arith,
            node_within i here,
            length-map (joined R (scaled R l v.row) (scaled R m w.row)) (R.times by),
            length-mix laws v.row w.row l m same_lengths,
          );
          is_one = entry-scaled laws by (joined R (scaled R l v.row) (scaled R m w.row)) i
              ∙ ap (R.times by) (entry-mix laws v.row w.row l m same_lengths i) ∙ one;
          before = λ j lt. entry-scaled laws by (joined R (scaled R l v.row) (scaled R m w.row)) j
              ∙ ap (R.times by) (entry_zero j (before j lt)) ∙ times_zero laws by;
        };
        size = omega (
          arith,
          ap R.size e,
          laws.size_inverse sum (sum_at i here),
          laws.size_plus (R.times l (entry R v.row i)) (R.times m (entry R w.row i)),
          laws.size_times l (entry R v.row i),
          laws.size_times m (entry R w.row i),
          left_size,
          right_size,
          h.first_size,
          h.second_size,
          size-entry R v.row i R.zero (node_within i here),
          size-entry R w.row i R.zero (omega (arith, node_within i here, same_lengths)),
        );
      }
        where
          sum : V
          sum = R.plus (R.times l (entry R v.row i)) (R.times m (entry R w.row i))

          one : R.times by sum ≡ R.one
          one = ap (λ c. R.times c sum) e ∙ laws.times_comm (R.inverse sum) sum ∙ laws.invertible sum (sum_at i here)

    -- the sum in the slot of the new inequality
    pub slot_size : R.size slot.sum ≤ 2 ^ 59
    slot_size = omega (
      arith,
      ap R.size (h.pair.new_slot.sum ∙ right-mixed laws p v.row w.row same_lengths
          (record {
            left = h.pair.last.left ∙ sym h.pair.first.solves.wide;
            right =
                h.pair.last.right ∙ sym h.pair.first.solves.wide;
          }) h.pair.holds
          (λ z. h.pair.finite (h.pair.right ∙ z)) h.pair.fails),
      laws.size_times (dot R p.left w.row) (dot R p.right v.row),
      ap R.size h.pair.left,
      ap R.size h.pair.right,
      left_size,
      right_size,
    )

module _ {V : Type 0} {R : Semiring V} (laws : SemiringLaws R) (n : ℕ) (system : List (Inequality V)) (p : Inequality V)
    (v w : Side V) (slot : Slot V) (by first second : V) (k : AreMultiples R n system p v w slot by first second) where
  pub first_size : R.size first ≤ 2 ^ 60
  first_size = omega (
    arith,
    ap R.size k.is_first,
    laws.size_times by k.left,
    k.normalises.size,
    left_size laws n system p v w k.left k.right slot k.fit,
  )

  pub second_size : R.size second ≤ 2 ^ 60
  second_size = omega (
    arith,
    ap R.size k.is_second,
    laws.size_times by k.right,
    k.normalises.size,
    right_size laws n system p v w k.left k.right slot k.fit,
  )

  module _ (x : List V) (is : x ≡ joined R (scaled R first v.row) (scaled R second w.row)) where
    mixed_is : joined R (scaled R k.left v.row) (scaled R k.right w.row) ≡ mixed R p.left p.right v.row w.row
    mixed_is = pair_mixed laws n system p v w k.left k.right slot k.fit.pair

    multiple : x ≡ scaled R by (mixed R p.left p.right v.row w.row)
    multiple = is ∙ ap₂ (λ a b. joined R (scaled R a v.row) (scaled R b w.row)) k.is_first k.is_second
        ∙ sym (scaled-joined laws by (scaled R k.left v.row) (scaled R k.right w.row)
        ∙ ap₂ (joined R) (scaled-scaled laws by k.left v.row) (scaled-scaled laws by k.right w.row))
        ∙ ap (scaled R by) mixed_is

    pub normalises : Normalises R (mixed R p.left p.right v.row w.row) x
    normalises = record {
      factor = by;
      finite = k.normalises.finite;
      multiple = multiple;
      normal = subst (IsNormal R) (ap (scaled R by) mixed_is ∙ sym multiple) k.normalises.normal;
    }

    pub normal_mix : IsNormalMix R p v.row w.row x first second
    unfolding normalises
    normal_mix = record {
      normal = normalises;
      left = k.is_first ∙ ap (R.times by) k.fit.pair.left;
      right =
          k.is_second ∙ ap (R.times by) k.fit.pair.right;
    }

    pub solves : Solves R n (system ++ p ∷ []) x
    solves = k.fit.solves x normalises

    pub slot_here : (seen : Slot V) (sum : V) → seen ≡ slot → sum ≡ R.times by seen.sum →
        IsSlot R x p (record { sum = sum; tail = seen.tail; head = seen.head })
    slot_here seen sum e es =
        subst (λ y. IsSlot R y p (record { sum = sum; tail = seen.tail; head = seen.head })) (sym multiple)
        (subst (λ s. IsSlot R (scaled R by (mixed R p.left p.right v.row w.row)) p
        (record { sum = s; tail = seen.tail; head = seen.head })) (sym es)
        (IsSlot-scaled laws p (mixed R p.left p.right v.row w.row) by seen k.normalises.finite
        (subst (IsSlot R (mixed R p.left p.right v.row w.row) p) (sym e) k.fit.pair.new_slot)))

    module _ (types : ℕ) (edges : List Hyperedge) (given : IsGiven R n system p v.row w.row types edges) where
      pub is_extreme : IsExtreme R (Solves R n (system ++ p ∷ [])) x
      is_extreme = (judged_some laws n system p v.row w.row types given.judged x normalises solves).0

      pub are_types : AreTypes R n (system ++ p ∷ []) x types
      are_types = (judged_some laws n system p v.row w.row types given.judged x normalises solves).1

      pub is_cover : (cover : ℕ) (seen : List Hyperedge) → seen ≡ edges →
          ((u : ℕ) → (Has cover u → ⊥) → IsOpen seen u) → IsCover R (system ++ p ∷ []) x cover
      is_cover cover seen e all = IsCover-edges R x (system ++ p ∷ []) edges cover (given.have x normalises solves)
          (λ u out. subst (λ es. IsOpen es u) e (all u out))

  pub has_edge : (seen : Slot V) (sum : V) → seen ≡ slot →
      HasEdge (record { sum = sum; tail = seen.tail; head = seen.head })
  has_edge seen sum e = subst (λ s. (i : ℕ) × Has s.head i) (sym e)
      (pair_edge laws n system p v w k.left k.right slot k.fit.pair)

  pub first_fits : All (λ s. R.size first + R.size s.sum ≤ 2 ^ 62) v.slots
  first_fits = fits laws n system p v w k.left k.right slot k.fit first (omega (arith, first_size)) v.slots
      (first_slots laws n system p v w k.left k.right slot k.fit)

  pub second_fits : All (λ s. R.size second + R.size s.sum ≤ 2 ^ 62) w.slots
  second_fits = fits laws n system p v w k.left k.right slot k.fit second (omega (arith, second_size)) w.slots
      (second_slots laws n system p v w k.left k.right slot k.fit)

module _ {V : Type 0} {R : Semiring V} (laws : SemiringLaws R) (n : ℕ) (system : List (Inequality V)) (p : Inequality V)
    (sides : List (Side V)) (next : IsNext R n system p sides) (found : List (List V)) (kept : Kept V)
    (k : IsKept R p sides kept) where
  -- some coordinate reaches the right sum of a kept row
  pub kept_tail : (j : ℕ) × Has kept.slot.tail j
  kept_tail =
      let blank : Side V = record {
        row = [];
        words = record { support = 0; types = 0; cover = 0 };
        slots = [];
        places =
            [];
      } in
      let s = k.is_slot blank in
      let f : dot R p.right (get_or sides kept.place blank).row ≢ R.zero = λ z. k.finite (s.sum ∙ z) in
      let r = some_attains laws p.right (get_or sides kept.place blank).row
      (next.last.right ∙ sym (next.each kept.place blank k.within).solves.wide) f in
      (r.0, (s.tail r.0).1 (f, r.1))

  -- a pair that is rejected by the words of the rows at both places
  pub rejected_at : (dropped : Dropped V) → IsDropped R p sides dropped → (first : Words) →
      ((d : Side V) → first ≡ (get_or sides kept.place d).words) → IsRejected first dropped.words kept.slot.tail →
      HasGiven R n system p sides found kept dropped
  rejected_at dropped h first is r =
      let blank : Side V = record {
        row = [];
        words = record { support = 0; types = 0; cover = 0 };
        slots = [];
        places =
            [];
      } in
      rejected_given laws n system p sides next kept dropped k h (get_or sides kept.place blank)
      (get_or sides dropped.place blank) (get_or_default sides kept.place blank
      (get_or sides kept.place blank) k.within)
      (get_or_default sides dropped.place blank (get_or sides dropped.place blank) h.within) found
      (subst (λ a. IsRejected a (get_or sides dropped.place blank).words kept.slot.tail) (is blank)
      (subst (λ b. IsRejected first b kept.slot.tail) (h.is_words blank) r))

  -- where no type of the kept row reaches its right sum, no pair with it has to be tried
  pub no_type_given : (dropped : List (Dropped V)) → All (IsDropped R p sides) dropped → (types : ℕ) →
      ((d : Side V) → types ≡ (get_or sides kept.place d).words.types) →
      ((j : ℕ) → Has types j → Has kept.slot.tail j → ⊥) → All (HasGiven R n system p sides found kept) dropped
  no_type_given dropped all types is none i d l =
      let blank : Side V = record {
        row = [];
        words = record { support = 0; types = 0; cover = 0 };
        slots = [];
        places =
            [];
      } in
      rejected_at (get_or dropped i d) (all i d l) (get_or sides kept.place blank).words
      (λ e. ap (λ s. s.words) (get_or_default sides kept.place blank e k.within))
      (inl (λ j here. none j (subst (λ w. Has w j) (sym (is blank)) here)))

-- the coordinates in common, as they are read
pub union_nodes : (v w a b nodes : ℕ) → a ≡ v → b ≡ w → ((i : ℕ) → Has nodes i ↔ (Has a i ⊎ Has b i)) → (i : ℕ) →
    Has nodes i ↔ (Has v i ⊎ Has w i)
union_nodes v w a b nodes ea eb h i = subst (λ x. Has nodes i ↔ (Has x i ⊎ Has w i)) ea
    (subst (λ y. Has nodes i ↔ (Has a i ⊎ Has y i)) eb (h i))
