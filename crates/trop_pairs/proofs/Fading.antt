-- Two nodes that are spared at each place, or one that is no type of the dropped row, leave a pair without a row that
-- has to be found.
use Rattle.std.proofs.Common.{◌≡◌, ◌≢◌, ◌⊎◌, ◌<◌, ℕ, List, [], ◌∷◌, ◌++◌, length, inl, inr, ⊎_elim, sym, ap, ap₂, ◌∙◌, subst, get_or, arith}
use Rattle.std.specs.Prelude.{◌↔◌, All}
use Rattle.std.proofs.lemmas.List.{get_or_default}
use Rattle.std.proofs.lemmas.List.Elements.{All-push, All-contains}
use Rattle.trop_theory.specs.Semiring.{Semiring, SemiringLaws}
use Rattle.trop_theory.specs.Vectors.{entry, scaled, joined, dot}
use Rattle.trop_theory.specs.Inequalities.{Inequality, IsIn}
use Rattle.trop_theory.specs.Steps.{mixed}
use Rattle.trop_theory.proofs.Truth.{HoldsOf, truth}
use Rattle.trop_criterion.specs.Hypergraphs.{Has}
use Rattle.trop_pruning.specs.Slots.{Slot, IsSlot}
use Rattle.trop_pruning.specs.PairEdges.{HasEdge, edge_of, slot_at}
use Rattle.trop_pruning.specs.Pairs.{GivesTyped, IsClosing}
use Rattle.trop_pruning.specs.Open.{HoldsBack, HoldsBackAt, IsOpenAt}
use Rattle.trop_pruning.specs.Judged.{Side, IsSide, IsPair}
use Rattle.trop_pruning.proofs.MixedSums.{Attains-mix, length-mix}
use Rattle.trop_pruning.proofs.MixedSlots.{head-mix}
use Rattle.trop_pruning.proofs.SlotEdges.{tail_some}
use Rattle.trop_pruning.proofs.SlotLists.{length-slots}
use Rattle.trop_pruning.proofs.PairGraph.{slot_of}
use Rattle.trop_pruning.proofs.PairTest.{support-mix, support-scaled}
use Rattle.trop_pruning.proofs.OpenTangents.{open_is_type, HoldsBackAt-scaled}
use Rattle.trop_pruning.proofs.Judged.{pair_edge, pair_finite, pair_mixed}
use Rattle.trop_pairs.specs.Early.{IsSpared}

-- what holds back a node at a row does so as a hyperedge
back_slot : {V : Type 0} (R : Semiring V) (x : List V) (p : Inequality V) (slot : Slot V) (u : ℕ) → IsSlot R x p slot →
    HoldsBackAt R x u p → HoldsBack u (edge_of slot)
back_slot R x p slot u s back tail i here =
    let r = (s.head i).0 here in
    back r.0 (λ j a. tail j ((s.tail j).1 (r.0.finite, a))) i r.1

module _ {V : Type 0} {R : Semiring V} (laws : SemiringLaws R) where
  -- what one side says of a node of its head
  from_side : (l m a b : V) (first second : Slot V) (u i : ℕ) → R.times l first.sum ≡ a → R.times m second.sum ≡ b →
      a ≡ R.plus a b → ((j : ℕ) → Has first.tail j → j ≡ u) →
      (b ≡ R.plus a b → (j : ℕ) → Has second.tail j → j ≡ u) → IsSpared R l m first second u → Has first.head i → i ≡ u
  from_side l m a b first second u i is_a is_b e tail other spared here = ⊎_elim
      (λ back. back tail i here)
      (λ s. ⊎_elim
      (λ f. absurd (f (is_a ∙ e ∙ sym (ap₂ R.plus is_a is_b))))
      (λ o. absurd (o.1 (other (sym (sym is_a ∙ o.0 ∙ is_b) ∙ e))))
      s)
      spared

  -- what the slots of both rows spare is held back at the sum
  pub spared_holds_back : (p : Inequality V) (v w : List V) (l m : V) (u : ℕ) (first second : Slot V) →
      length v ≡ length w → IsIn (length v) p → l ≢ R.zero → m ≢ R.zero → HoldsOf R p.left p.right v →
      HoldsOf R p.left p.right w → IsSlot R v p first → IsSlot R w p second →
      (HasEdge first → IsSpared R l m first second u) → (HasEdge second → IsSpared R m l second first u) →
      HoldsBackAt R (joined R (scaled R l v) (scaled R m w)) u p
  spared_holds_back p v w l m u first second same inside fl fm hv hw sv sw by_first by_second tight tail i here =
      ⊎_elim
      (λ r. from_side l m (R.times l (dot R p.right v)) (R.times m (dot R p.right w)) first second u i
      (ap (R.times l) sv.sum) (ap (R.times m) sw.sum) r.0 (in_first r.0) in_second
      (by_first (i, (sv.head i).1 r.1)) ((sv.head i).1 r.1))
      (λ r. from_side m l (R.times m (dot R p.right w)) (R.times l (dot R p.right v)) second first u i
      (ap (R.times m) sw.sum) (ap (R.times l) sv.sum)
      (r.0 ∙ laws.plus_comm (R.times l (dot R p.right v)) (R.times m (dot R p.right w))) (in_second r.0)
      (λ e. in_first (e ∙ laws.plus_comm (R.times m (dot R p.right w)) (R.times l (dot R p.right v))))
      (by_second (i, (sw.head i).1 r.1)) ((sw.head i).1 r.1))
      ((head-mix laws p v w l m same inside fl fm hv hw i).0 (tight, here))
    where
      in_first : R.times l (dot R p.right v) ≡ R.plus (R.times l (dot R p.right v)) (R.times m (dot R p.right w)) →
          (j : ℕ) → Has first.tail j → j ≡ u
      in_first e j h = tail j
          ((Attains-mix laws v w l m same p.right j fl fm inside.right).1 (inl (e, ((sv.tail j).0 h).1)))

      in_second : R.times m (dot R p.right w) ≡ R.plus (R.times l (dot R p.right v)) (R.times m (dot R p.right w)) →
          (j : ℕ) → Has second.tail j → j ≡ u
      in_second e j h = tail j
          ((Attains-mix laws v w l m same p.right j fl fm inside.right).1 (inr (e, ((sw.tail j).0 h).1)))

  module _ (n : ℕ) (system : List (Inequality V)) where
    -- the slots beside a row that give a hyperedge have a tail
    pub tails_of : (v : Side V) → All (IsIn n) system → IsSide R n system v →
        All (λ s. HasEdge s → (j : ℕ) × Has s.tail j) v.slots
    tails_of v inside h k d l has =
        let few : k < length system = omega (arith, l, length-slots R v.row system v.slots h.slots) in
        let q : Inequality V = get_or system k (record { left = []; right = [] }) in
        let read = get_or_default v.slots k (record { sum = R.zero; tail = 0; head = 0 }) d l in
        let s : IsSlot R v.row q (get_or v.slots k d) = subst (IsSlot R v.row q) read
        (slot_of R v.row system v.slots k (record { left = []; right = [] }) h.slots few) in
        let there = inside k (record { left = []; right = [] }) few in
        tail_some laws v.row q (get_or v.slots k d) s
        (record { left = there.left ∙ sym h.solves.wide; right = there.right ∙ sym h.solves.wide })
        ((s.head has.0).0 has.1).0

    -- the tail of the new hyperedge has a node
    pub new_tail : (p : Inequality V) (v w : Side V) (l m : V) (slot seen : Slot V) →
        IsPair R n system p v w l m slot → seen ≡ slot → (j : ℕ) × Has seen.tail j
    new_tail p v w l m slot seen h is =
        let has = pair_edge laws n system p v w l m slot h in
        let wide : n ≡ length (mixed R p.left p.right v.row w.row) =
        sym (length-mix laws v.row w.row (dot R p.left w.row) (dot R p.right v.row)
        (h.first.solves.wide ∙ sym h.second.solves.wide) ∙ h.first.solves.wide) in
        subst (λ s. (j : ℕ) × Has s.tail j) (sym is)
        (tail_some laws (mixed R p.left p.right v.row w.row) p slot h.new_slot
        (record { left = h.last.left ∙ wide; right = h.last.right ∙ wide }) ((h.new_slot.head has.0).0 has.1).0)

    -- it is not the node alone that is not closed
    pub not_closed : (slot seen : Slot V) (cover start u : ℕ) → seen ≡ slot → IsClosing cover seen.tail start →
        (Has start u → ⊥) → ((j : ℕ) → Has slot.tail j → j ≡ u) → ⊥
    not_closed slot seen cover start u is closing out all =
        (closing u out).1 (subst (λ s. (j : ℕ) → Has s.tail j → j ≡ u) (sym is) all)

    module _ (p : Inequality V) (v w : Side V) (l m : V) (slot : Slot V) (h : IsPair R n system p v w l m slot)
        (x : List V) (t : ℕ) (g : GivesTyped R n system p v.row w.row x t) where
      same : length v.row ≡ length w.row
      same = h.first.solves.wide ∙ sym h.second.solves.wide

      fl : l ≢ R.zero
      fl = (pair_finite laws n system p v w l m slot h).0

      fm : m ≢ R.zero
      fm = (pair_finite laws n system p v w l m slot h).1

      module _ (u : ℕ) (first : All (λ k. IsSpared R l m (slot_at R v.slots k) (slot_at R w.slots k) u) v.places)
          (second : (k : ℕ) → k < length system → HasEdge (slot_at R w.slots k) →
          IsSpared R m l (slot_at R w.slots k) (slot_at R v.slots k) u)
          (not_alone : ((j : ℕ) → Has slot.tail j → j ≡ u) → ⊥)
          (node : Has v.words.support u ⊎ Has w.words.support u) where
        old_back : (k : ℕ) (d : Inequality V) → k < length system →
            HoldsBackAt R (joined R (scaled R l v.row) (scaled R m w.row)) u (get_or system k d)
        old_back k d few =
            let there = h.inside k d few in
            let inside : IsIn (length v.row) (get_or system k d) = record {
              left = there.left ∙ sym h.first.solves.wide;
              right = there.right ∙ sym h.first.solves.wide;
            } in
            spared_holds_back (get_or system k d) v.row w.row l m u (slot_at R v.slots k) (slot_at R w.slots k) same
            inside fl fm
            ((truth laws (get_or system k d).left (get_or system k d).right v.row inside.left inside.right).1
            (h.first.solves.holds k d few))
            ((truth laws (get_or system k d).left (get_or system k d).right w.row (inside.left ∙ same)
            (inside.right ∙ same)).1 (h.second.solves.holds k d few))
            (slot_of R v.row system v.slots k d h.first.slots few)
            (slot_of R w.row system w.slots k d h.second.slots few)
            (λ has. All-contains (λ k. IsSpared R l m (slot_at R v.slots k) (slot_at R w.slots k) u) v.places k first
            (h.first.tight k few has))
            (second k few)

        new_back : HoldsBackAt R (mixed R p.left p.right v.row w.row) u p
        new_back tight tail i here = absurd (not_alone (λ j k. tail j ((h.new_slot.tail j).0 k).1))

        is_open : IsOpenAt R (system ++ p ∷ []) x u
        is_open = subst (λ y. IsOpenAt R (system ++ p ∷ []) y u) (sym g.normalises.multiple)
            (All-push (HoldsBackAt R (scaled R g.normalises.factor (mixed R p.left p.right v.row w.row)) u) system p
            (λ k d few. HoldsBackAt-scaled laws (get_or system k d) (mixed R p.left p.right v.row w.row)
            g.normalises.factor u g.normalises.finite
            (subst (λ y. HoldsBackAt R y u (get_or system k d)) (pair_mixed laws n system p v w l m slot h)
            (old_back k d few)))
            (HoldsBackAt-scaled laws p (mixed R p.left p.right v.row w.row) g.normalises.factor u g.normalises.finite
            new_back))

        is_node : entry R x u ≢ R.zero
        is_node = subst (λ y. entry R y u ≢ R.zero) (sym g.normalises.multiple)
            ((support-scaled laws (mixed R p.left p.right v.row w.row) g.normalises.factor u g.normalises.finite).1
            (subst (λ y. entry R y u ≢ R.zero) (pair_mixed laws n system p v w l m slot h)
            both_finite))
          where
            both_finite : entry R (joined R (scaled R l v.row) (scaled R m w.row)) u ≢ R.zero
            both_finite = (support-mix laws v.row w.row l m u same fl fm).1
                (⊎_elim (λ a. inl ((h.first.words.support u).0 a)) (λ b. inr ((h.second.words.support u).0 b)) node)

        -- so it is the type of what the pair gives
        pub spared_is_type : t ≡ u
        spared_is_type = open_is_type laws n (system ++ p ∷ []) x u t (All-push (IsIn n) system p h.inside h.last)
            is_node is_open g.new_type

      -- what the test finds of the nodes, by the sets that it makes
      module _ (vs ws : List (Slot V)) (vp : List ℕ) (start some nodes : ℕ) (evs : vs ≡ v.slots)
          (ews : ws ≡ w.slots) (evp : vp ≡ v.places)
          (closing : (u : ℕ) → (Has start u → ⊥) → ((j : ℕ) → Has slot.tail j → j ≡ u) → ⊥)
          (first : (u : ℕ) → (Has some u → ⊥) → All (λ k. IsSpared R l m (slot_at R vs k) (slot_at R ws k) u) vp)
          (in_nodes : (i : ℕ) → Has nodes i ↔ (Has v.words.support i ⊎ Has w.words.support i)) where
        left_type : (u : ℕ) → Has nodes u → (Has start u → ⊥) → (Has some u → ⊥) → ((k : ℕ) → k < length system →
            HasEdge (slot_at R w.slots k) → IsSpared R m l (slot_at R w.slots k) (slot_at R v.slots k) u) → u ≡ t
        left_type u node unclosed out second = sym (spared_is_type u
            (subst (λ a. All (λ k. IsSpared R l m (slot_at R a k) (slot_at R w.slots k) u) v.places) evs
            (subst (λ b. All (λ k. IsSpared R l m (slot_at R vs k) (slot_at R b k) u) v.places) ews
            (subst (All (λ k. IsSpared R l m (slot_at R vs k) (slot_at R ws k) u)) evp (first u out))))
            second (closing u unclosed) ((in_nodes u).0 node))

        -- after the places of the first row, where what the second row covers counts as closed
        pub early_type : (cover closed early : ℕ) → cover ≡ w.words.cover →
            ((i : ℕ) → Has closed i ↔ (Has start i ⊎ Has cover i)) →
            ((u : ℕ) → (Has some u → ⊥) → Has closed u → ⊥) →
            ((i : ℕ) → Has early i ↔ (Has nodes i × (Has some i → ⊥))) → (u : ℕ) → Has early u → u ≡ t
        early_type cover closed early is in_closed from_closed in_early u here =
            let r = (in_early u).0 here in
            let unclosed = from_closed u r.1 in
            let bare : IsOpenAt R system w.row u =
            h.second.words.cover u (λ k. unclosed ((in_closed u).1 (inr (subst (λ c. Has c u) (sym is) k)))) in
            left_type u r.0 (λ k. unclosed ((in_closed u).1 (inl k))) r.1
            (λ k few has. inl (back_slot R w.row (get_or system k p) (slot_at R w.slots k) u
            (slot_of R w.row system w.slots k p h.second.slots few) (bare k p few)))

        -- after the places of both
        pub open_type : (wp : List ℕ) (all bare : ℕ) → wp ≡ w.places → ((u : ℕ) → (Has some u → ⊥) → Has start u → ⊥) →
            ((u : ℕ) → (Has all u → ⊥) → Has some u → ⊥) →
            ((u : ℕ) → (Has all u → ⊥) → All (λ k. IsSpared R m l (slot_at R ws k) (slot_at R vs k) u) wp) →
            ((i : ℕ) → Has bare i ↔ (Has nodes i × (Has all i → ⊥))) → (u : ℕ) → Has bare u → u ≡ t
        open_type wp all bare ewp from_start from_some second in_open u here =
            let r = (in_open u).0 here in
            let out = from_some u r.1 in
            left_type u r.0 (from_start u out) out
            (λ k few has. All-contains (λ k. IsSpared R m l (slot_at R w.slots k) (slot_at R v.slots k) u) w.places k
            (subst (λ a. All (λ k. IsSpared R m l (slot_at R w.slots k) (slot_at R a k) u) w.places) evs
            (subst (λ b. All (λ k. IsSpared R m l (slot_at R b k) (slot_at R vs k) u) w.places) ews
            (subst (All (λ k. IsSpared R m l (slot_at R ws k) (slot_at R vs k) u)) ewp (second u r.1))))
            (h.second.tight k few has))

      -- the type is one of the dropped row
      pub dropped_typed : (types : ℕ) → types ≡ w.words.types → Has types t
      dropped_typed types is = subst (λ s. Has s t) (sym is) ((h.second.words.types t).1 g.dropped_type)
