-- A pair is judged by the hypergraph that is put together for it.
use Rattle.std.proofs.Common.{◌≡◌, ◌≢◌, ◌⊎◌, ◌<◌, ◌++◌, [], ◌∷◌, ℕ, Bool, true, false, not, List, length, inl, inr, ⊎_elim, sym, ap, ◌∙◌, subst}
use Rattle.std.specs.Prelude.{◌↔◌, All, Option, Some, None, MatchOption, IsTrue}
use Rattle.std.proofs.lemmas.List.Elements.{All-weaker, All-push, All-contains}
use Rattle.trop_theory.specs.Semiring.{Semiring, SemiringLaws}
use Rattle.trop_theory.specs.Vectors.{entry, scaled, joined}
use Rattle.trop_theory.specs.Normal.{Normalises}
use Rattle.trop_theory.specs.Inequalities.{Inequality, IsIn, Solves}
use Rattle.trop_theory.specs.Extreme.{IsType}
use Rattle.trop_theory.specs.Steps.{mixed}
use Rattle.trop_criterion.specs.Hypergraphs.{Has, Hyperedge, Hypergraph, IsGreatest}
use Rattle.trop_pruning.specs.Slots.{Slot}
use Rattle.trop_pruning.specs.Edges.{HaveEdges, IsEdgeOf}
use Rattle.trop_pruning.specs.PairEdges.{HasEdge, edge_of, slot_at, IsWithin, IsDone, AddsAll}
use Rattle.trop_pruning.specs.Judged.{Side, IsSide, IsPair, IsJudged}
use Rattle.trop_pruning.proofs.SlotEdges.{tail_some}
use Rattle.trop_pruning.proofs.Sums.{some_attains}
use Rattle.trop_pruning.proofs.MixedSums.{length-mix}
use Rattle.trop_pruning.proofs.OpenNodes.{two_open_none}
use Rattle.trop_pruning.specs.Open.{IsOpen}
use Rattle.trop_pruning.proofs.Judged.{pair_edge, pair_edges, places_within, side_within, side_edges, side_support, pair_slot_within, pair_mixed, pair_types}

match_weaker : {A : Type 0} (found : Option A) (P P' : Type 0) (Q Q' : A → Type 0) → (P → P') → ((a : A) → Q a → Q' a) →
    MatchOption found P Q → MatchOption found P' Q'
match_weaker None P P' Q Q' f g h = f h
match_weaker (Some a) P P' Q Q' f g h = g a h

skips_less : {V : Type 0} (R : Semiring V) (l m : V) (skips more : ℕ → Type 0) (firsts seconds : List (Slot V))
    (places : List ℕ) (old new : List Hyperedge) → ((k : ℕ) → skips k → more k) →
    AddsAll R l m skips firsts seconds places old new → AddsAll R l m more firsts seconds places old new
skips_less R l m skips more firsts seconds places old new f h = record {
  stay = h.stay;
  each = h.each;
  all = All-weaker (IsDone R l m skips firsts seconds new) (IsDone R l m more firsts seconds new)
      (λ k d. ⊎_elim (λ s. inl (f k s)) (λ r. inr r) d) places h.all;
}

never : IsTrue false → ⊥
never e = cc

pub not_both : (b : Bool) → IsTrue (not b) → IsTrue b → ⊥
not_both true h k = never h
not_both false h k = never k

-- two nodes that no hyperedge leaves alone
pub two_left : (graph : Hypergraph) (edges : List Hyperedge) (nodes cover left rest u : ℕ) (none : Bool) →
    nodes ≡ graph.nodes → edges ≡ graph.edges → ((s : ℕ) → (Has cover s → ⊥) → IsOpen edges s) →
    ((i : ℕ) → Has left i ↔ (Has nodes i × (Has cover i → ⊥))) → Has left u →
    ((j : ℕ) → Has rest j ↔ ((j ≡ u → ⊥) × Has left j)) → (IsTrue none ↔ ((i : ℕ) → Has rest i → ⊥)) →
    IsTrue (not none) → (t : ℕ) → IsGreatest graph t → ⊥
two_left graph edges nodes cover left rest u none en ee all in_left here in_rest empty some t g =
    not_both none some (empty.1 (λ i k.
    let r = (in_rest i).0 k in
    two_open_none graph u i t (node u here) (node i r.1) (alone u here) (alone i r.1) (λ e. r.0 (sym e)) g))
  where
    node : (i : ℕ) → Has left i → Has graph.nodes i
    node i h = subst (λ k. Has k i) en ((in_left i).0 h).0

    alone : (i : ℕ) → Has left i → IsOpen graph.edges i
    alone i h = subst (λ es. IsOpen es i) ee (all i ((in_left i).0 h).1)

module _ {V : Type 0} {R : Semiring V} (laws : SemiringLaws R) (n : ℕ) (system : List (Inequality V)) where
  pub places_in : (v w : Side V) (ps : List ℕ) (ws : List (Slot V)) → IsSide R n system v → IsSide R n system w →
      ps ≡ v.places → ws ≡ w.slots → All (λ k. k < length ws) ps
  places_in v w ps ws hv hw ep ew = subst (λ s. All (λ k. k < length s) ps) (sym ew)
      (subst (All (λ k. k < length w.slots)) (sym ep) (places_within laws n system v w hv hw))

  module _ (v w : Side V) (nodes now : ℕ) (in_nodes : (i : ℕ) →
      Has nodes i ↔ (Has v.words.support i ⊎ Has w.words.support i)) (same : now ≡ nodes) where
    pub first_in : (vs : List (Slot V)) → IsSide R n system v → vs ≡ v.slots → All (IsWithin now) vs
    first_in vs hv e = subst (All (IsWithin now)) (sym e)
        (side_within laws n system v now hv (λ i h. subst (λ s. Has s i) (sym same) ((in_nodes i).1 (inl h))))

    pub second_in : (ws : List (Slot V)) → IsSide R n system w → ws ≡ w.slots → All (IsWithin now) ws
    second_in ws hw e = subst (All (IsWithin now)) (sym e)
        (side_within laws n system w now hw (λ i h. subst (λ s. Has s i) (sym same) ((in_nodes i).1 (inr h))))

    pub filled_nodes : (l m : V) → IsSide R n system v → IsSide R n system w → l ≢ R.zero → m ≢ R.zero → (i : ℕ) →
        Has now i ↔ (entry R (joined R (scaled R l v.row) (scaled R m w.row)) i ≢ R.zero)
    filled_nodes l m hv hw fl fm i = subst (λ s. Has s i
        ↔ (entry R (joined R (scaled R l v.row) (scaled R m w.row)) i ≢ R.zero)) (sym same)
        (side_support laws n system v w l m hv hw fl fm nodes in_nodes i)

  pub filled_edges : (v w : Side V) (l m : V) (vs ws : List (Slot V)) (vp wp : List ℕ)
      (start middle edges : List Hyperedge) → All (IsIn n) system → IsSide R n system v → IsSide R n system w →
      l ≢ R.zero → m ≢ R.zero → vs ≡ v.slots → ws ≡ w.slots → vp ≡ v.places → wp ≡ w.places → start ≡ [] →
      AddsAll R l m (λ k. IsTrue false × HasEdge (slot_at R vs k)) vs ws vp start middle →
      AddsAll R l m (λ k. IsTrue true × HasEdge (slot_at R vs k)) vs ws wp middle edges →
      HaveEdges R system (joined R (scaled R l v.row) (scaled R m w.row)) edges
  filled_edges v w l m vs ws vp wp start middle edges inside hv hw fl fm evs ews evp ewp none first second =
      side_edges laws n system v w l m inside hv hw fl fm middle edges (λ k. HasEdge (slot_at R v.slots k))
      (λ k s. s) first_adds second_adds
    where
      first_adds : AddsAll R l m (λ k. ⊥) v.slots w.slots v.places [] middle
      first_adds = skips_less R l m (λ k. IsTrue false × HasEdge (slot_at R v.slots k))
          (λ k. ⊥) v.slots w.slots v.places [] middle (λ k s. never s.0)
          (subst (λ a. AddsAll R l m (λ k. IsTrue false × HasEdge (slot_at R a k)) a w.slots v.places [] middle) evs
          (subst (λ a. AddsAll R l m (λ k. IsTrue false × HasEdge (slot_at R vs k)) vs a v.places [] middle) ews
          (subst (λ a. AddsAll R l m (λ k. IsTrue false × HasEdge (slot_at R vs k)) vs ws a [] middle) evp
          (subst (λ a. AddsAll R l m (λ k. IsTrue false × HasEdge (slot_at R vs k)) vs ws vp a middle) none first))))

      second_adds : AddsAll R l m (λ k. HasEdge (slot_at R v.slots k)) v.slots w.slots w.places middle edges
      second_adds = skips_less R l m (λ k. IsTrue true × HasEdge (slot_at R v.slots k))
          (λ k. HasEdge (slot_at R v.slots k)) v.slots w.slots w.places middle edges (λ k s. s.1)
          (subst (λ a. AddsAll R l m (λ k. IsTrue true × HasEdge (slot_at R a k)) a w.slots w.places middle edges) evs
          (subst (λ a. AddsAll R l m (λ k. IsTrue true × HasEdge (slot_at R vs k)) vs a w.places middle edges) ews
          (subst (λ a. AddsAll R l m (λ k. IsTrue true × HasEdge (slot_at R vs k)) vs ws a middle edges) ewp second)))

  -- a pair, once its hypergraph is filled
  module _ (p : Inequality V) (v w : Side V) (l m : V) (slot : Slot V) (h : IsPair R n system p v w l m slot)
      (nodes : ℕ) (in_nodes : (i : ℕ) → Has nodes i
      ↔ (entry R (joined R (scaled R l v.row) (scaled R m w.row)) i ≢ R.zero)) where
    mixed_nodes : (i : ℕ) → Has nodes i ↔ (entry R (mixed R p.left p.right v.row w.row) i ≢ R.zero)
    mixed_nodes i = subst (λ y. Has nodes i ↔ (entry R y i ≢ R.zero)) (pair_mixed laws n system p v w l m slot h)
        (in_nodes i)

    pub slot_in : IsWithin nodes slot
    slot_in = pair_slot_within laws n system p v w l m slot h nodes (λ i. (mixed_nodes i).1)

    pub judged : (edges : List Hyperedge) (graph : Hypergraph) (found : Option ℕ) →
        HaveEdges R system (joined R (scaled R l v.row) (scaled R m w.row)) edges → graph.nodes ≡ nodes →
        graph.edges ≡ edges ++ edge_of slot ∷ [] →
        MatchOption found ((t : ℕ) → IsGreatest graph t → ⊥)
        (λ types. ((t : ℕ) × Has types t) × ((t : ℕ) → Has types t ↔ IsGreatest graph t)) →
        IsJudged R n system p v.row w.row found
    judged edges graph found have en ee f x normal solves =
        match_weaker found _ _ _ _
        (λ no t typed. no t (subst (λ g. IsGreatest g t) (sym whole) ((types t).1 typed)))
        (λ some yes. (
          yes.0,
          λ t. (
            λ k. (types t).0 (subst (λ g. IsGreatest g t) whole ((yes.1 t).0 k)),
            λ typed. (yes.1 t).1 (subst (λ g. IsGreatest g t) (sym whole) ((types t).1 typed)),
          ),
        ))
        f
      where
        whole : graph ≡ record { nodes = nodes; edges = edges ++ edge_of slot ∷ [] }
        whole = ap (λ k. record { nodes = k; edges = graph.edges }) en
            ∙ ap (λ es. record { nodes = nodes; edges = es }) ee

        types : (t : ℕ) → IsGreatest (record { nodes = nodes; edges = edges ++ edge_of slot ∷ [] }) t
            ↔ IsType R (Solves R n (system ++ p ∷ [])) x t
        types = pair_types laws n system p v w l m slot h x normal solves nodes mixed_nodes edges
            (subst (λ y. HaveEdges R system y edges) (pair_mixed laws n system p v w l m slot h) have)

    -- the hyperedges that the room is left with
    pub judged_edges : (edges all : List Hyperedge) →
        HaveEdges R system (joined R (scaled R l v.row) (scaled R m w.row)) edges → all ≡ edges ++ edge_of slot ∷ [] →
        (x : List V) → Normalises R (mixed R p.left p.right v.row w.row) x → Solves R n (system ++ p ∷ []) x →
        HaveEdges R (system ++ p ∷ []) x all
    judged_edges edges all have e x normal solves =
        subst (HaveEdges R (system ++ p ∷ []) x) (sym e)
        (pair_edges laws n system p v w l m slot h x normal solves nodes mixed_nodes edges
        (subst (λ y. HaveEdges R system y edges) (pair_mixed laws n system p v w l m slot h) have))

    -- no tail is empty
    pub tails_some : (edges all : List Hyperedge) →
        HaveEdges R system (joined R (scaled R l v.row) (scaled R m w.row)) edges → all ≡ edges ++ edge_of slot ∷ [] →
        All (λ edge. (j : ℕ) × Has edge.tail j) all
    tails_some edges all have e = subst (All (λ edge. (j : ℕ) × Has edge.tail j)) (sym e)
        (All-push (λ edge. (j : ℕ) × Has edge.tail j) edges (edge_of slot)
        (All-weaker (IsEdgeOf R system (joined R (scaled R l v.row) (scaled R m w.row)))
        (λ edge. (j : ℕ) × Has edge.tail j) some_edge edges have.each) some_slot)
      where
        same : length v.row ≡ length w.row
        same = h.first.solves.wide ∙ sym h.second.solves.wide

        wide : n ≡ length (joined R (scaled R l v.row) (scaled R m w.row))
        wide = sym (length-mix laws v.row w.row l m same ∙ h.first.solves.wide)

        mixed_wide : n ≡ length (mixed R p.left p.right v.row w.row)
        mixed_wide = wide ∙ ap length (pair_mixed laws n system p v w l m slot h)

        some_edge : (edge : Hyperedge) → IsEdgeOf R system (joined R (scaled R l v.row) (scaled R m w.row)) edge →
            (j : ℕ) × Has edge.tail j
        some_edge edge k =
            let r = some_attains laws k.inequality.right (joined R (scaled R l v.row) (scaled R m w.row))
            ((All-contains (IsIn n) system k.inequality h.inside k.contained).right ∙ wide) k.given.tight.finite in
            (r.0, (k.given.tail r.0).1 r.1)

        some_slot : (j : ℕ) × Has slot.tail j
        some_slot =
            let has = pair_edge laws n system p v w l m slot h in
            tail_some laws (mixed R p.left p.right v.row w.row) p slot h.new_slot
            (record { left = h.last.left ∙ mixed_wide; right = h.last.right ∙ mixed_wide })
            ((h.new_slot.head has.0).0 has.1).0
