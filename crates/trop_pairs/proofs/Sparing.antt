-- Which nodes one hyperedge of a parent leaves alone no longer in the sum.
use Rattle.std.proofs.Common.{◌≡◌, ◌<◌, ◌≤◌, ◌+◌, ℕ, Bool, true, false, not, List, length, take, get_or, inl, inr, ⊎_elim, sym, ◌∙◌, subst}
use Rattle.std.specs.Prelude.{◌↔◌, All, IsTrue, IsFalse}
use Rattle.std.proofs.lemmas.Bool.{cases_eq}
use Rattle.std.proofs.lemmas.List.{get_or_default, take_all}
use Rattle.std.proofs.lemmas.List.Elements.{All-more}
use Rattle.trop_theory.specs.Semiring.{Semiring}
use Rattle.trop_criterion.specs.Hypergraphs.{Has, Hyperedge}
use Rattle.trop_pruning.specs.Slots.{Slot}
use Rattle.trop_pruning.specs.PairEdges.{HasEdge, edge_of, slot_at}
use Rattle.trop_pruning.specs.Open.{HoldsBack}
use Rattle.trop_pairs.specs.Early.{IsSpared}
use Rattle.trop_pairs.proofs.PairJudging.{not_both}

pub not_false : (b : Bool) → IsFalse b → IsTrue b → ⊥
not_false true f t = cc
not_false false f t = cc

-- a tail with another node
pub back_other : (u node : ℕ) (edge : Hyperedge) → Has edge.tail node → (u ≡ node → ⊥) → HoldsBack u edge
back_other u node edge h f tail i here = absurd (f (sym (tail node h)))

-- a tail of two nodes
pub back_two : (u node rest : ℕ) (edge : Hyperedge) (b : Bool) → Has edge.tail node →
    ((j : ℕ) → Has rest j ↔ ((j ≡ node → ⊥) × Has edge.tail j)) → (IsTrue b ↔ ((i : ℕ) → Has rest i → ⊥)) →
    IsFalse b → HoldsBack u edge
back_two u node rest edge b h members none f tail i here = absurd (not_false b f (none.1 (λ j k.
    let r = (members j).0 k in
    r.0 (tail j r.1 ∙ sym (tail node h)))))

module _ {V : Type 0} (R : Semiring V) (l m : V) (first second : Slot V) where
  -- where both multiples are equal
  pub spared_equal : (seen : Slot V) (node rest : ℕ) (b : Bool) → seen ≡ second →
      R.times l first.sum ≡ R.times m second.sum →
      ((j : ℕ) → Has rest j ↔ ((j ≡ node → ⊥) × Has seen.tail j)) → (IsTrue b ↔ ((i : ℕ) → Has rest i → ⊥)) →
      IsFalse b → IsSpared R l m first second node
  spared_equal seen node rest b is e members none f = inr (inr (
    e,
    λ all. not_false b f (none.1 (λ j k.
        let r = (members j).0 k in
        r.0 (all j (subst (λ s. Has s.tail j) is r.1)))),
  ))

  -- any node, where one of the tail is spared
  pub spared_any : (u node : ℕ) → Has first.tail node → IsSpared R l m first second node →
      IsSpared R l m first second u
  spared_any u node h s = ⊎_elim (λ e. subst (IsSpared R l m first second) (sym e) s)
      (λ f. inl (back_other u node (edge_of first) h f)) (cases_eq u node)

module _ {V : Type 0} (R : Semiring V) (l m : V) (firsts seconds : List (Slot V)) (places : List ℕ) where
  abbrev pub SparedAt : ℕ → ℕ → Type 0
  SparedAt u k = IsSpared R l m (slot_at R firsts k) (slot_at R seconds k) u

  -- one more place
  pub covered_next : (i : ℕ) (s t : Slot V) (start old new : ℕ) → i < length places →
      get_or places i 0 < length firsts → get_or places i 0 < length seconds → s ≡ get_or firsts (get_or places i 0) s →
      t ≡ get_or seconds (get_or places i 0) t →
      ((u : ℕ) → (Has old u → ⊥) → (Has start u → ⊥) × All (SparedAt u) (take i places)) →
      ((u : ℕ) → (Has new u → ⊥) → Has old u → ⊥) → ((u : ℕ) → (Has new u → ⊥) → IsSpared R l m s t u) →
      (u : ℕ) → (Has new u → ⊥) → (Has start u → ⊥) × All (SparedAt u) (take (i + 1) places)
  covered_next i s t start old new lt lf ls read_s read_t before stay spared u out =
      let r = before u (stay u out) in (
        r.0,
        All-more (SparedAt u) places i 0 lt r.1
            (subst (λ a. IsSpared R l m a (slot_at R seconds (get_or places i 0)) u)
            (read_s ∙ get_or_default firsts (get_or places i 0) s _ lf)
            (subst (λ b. IsSpared R l m s b u) (read_t ∙ get_or_default seconds (get_or places i 0) t _ ls)
            (spared u out))),
      )

  pub covered_end : (i u : ℕ) → length places ≤ i → All (SparedAt u) (take i places) → All (SparedAt u) places
  covered_end i u past h = subst (All (SparedAt u)) (take_all i places past) h

-- a slot that is read from a list has a tail where it gives a hyperedge
pub read_tail : {V : Type 0} (slots : List (Slot V)) (k : ℕ) (slot : Slot V) →
    All (λ s. HasEdge s → (j : ℕ) × Has s.tail j) slots → k < length slots → slot ≡ get_or slots k slot →
    HasEdge slot → (j : ℕ) × Has slot.tail j
read_tail slots k slot all l read =
    subst (λ s. HasEdge s → (j : ℕ) × Has s.tail j) (sym read) (all k slot l)

-- all open nodes but the first, and whether it is one of the types
module _ (bare types t u : ℕ) (here : Has bare u) (typed : Has types t) (all : (i : ℕ) → Has bare i → i ≡ t) where
  pub ruled_two : (rest : ℕ) (none : Bool) → ((j : ℕ) → Has rest j ↔ ((j ≡ u → ⊥) × Has bare j)) →
      (IsTrue none ↔ ((i : ℕ) → Has rest i → ⊥)) → IsTrue (not none) → ⊥
  ruled_two rest none in_rest empty some = not_both none some (empty.1 (λ i k.
      let r = (in_rest i).0 k in
      r.0 (all i r.1 ∙ sym (all u here))))

  pub ruled_one : (has : Bool) → (IsTrue has ↔ Has types u) → IsTrue (not has) → ⊥
  ruled_one has is none = not_both has none (is.1 (subst (Has types) (sym (all u here)) typed))
