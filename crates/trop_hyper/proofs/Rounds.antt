-- How the set of the nodes that are reached from a node is found in rounds: a round goes over the hyperedges once and
-- adds heads whose tails are there. `reaches` is the relation that is to be found.
use Rattle.std.proofs.Common.{◌≡◌, ◌⊎◌, ◌<◌, ◌≤◌, ◌+◌, ◌^◌, ℕ, inl, inr, ⊎_elim, refl, sym, subst, arith}
use Rattle.std.specs.Prelude.{◌↔◌, count_ones}
use Rattle.std.proofs.lemmas.Bool.{cases_lt}
use Rattle.trop_criterion.specs.Hypergraphs.{Has, IsSubset}
use Rattle.trop_hyper.proofs.Words.{ones_some, ones-grow, ones-below, ones-within}

-- A round after the first k hyperedges. `kept j` says that the set from which it began has the head of hyperedge j
-- where it has its tail.
pub record IsGrown (reaches : ℕ → ℕ → Type 0) (kept : ℕ → Type 0) (nodes start k now : ℕ) : Type 0 where
  pub grown : IsSubset start now
  pub within : IsSubset now nodes
  pub reached : (u : ℕ) → ((v : ℕ) → Has start v → reaches u v) → (v : ℕ) → Has now v → reaches u v
  pub closed : IsSubset now start → (j : ℕ) → j < k → kept j

module _ (reaches : ℕ → ℕ → Type 0) (kept : ℕ → Type 0) (nodes start : ℕ) where
  pub IsGrown-first : IsSubset start nodes → IsGrown reaches kept nodes start 0 start
  IsGrown-first within = record {
    grown = λ i here. here;
    within = within;
    reached = λ u from. from;
    closed = λ s j l. absurd (omega arith);
  }

  -- one more, of which `kept` holds where nothing was added
  kept_more : (k now : ℕ) → ((j : ℕ) → j < k → kept j) → kept k → (j : ℕ) → j < k + 1 → kept j
  kept_more k now before here j m = ⊎_elim (λ p. before j p) (λ p. subst kept (omega arith) here) (cases_lt j k)

  pub IsGrown-skip : (k now : ℕ) → IsGrown reaches kept nodes start k now → kept k →
      IsGrown reaches kept nodes start (k + 1) now
  IsGrown-skip k now h here = record {
    grown = h.grown;
    within = h.within;
    reached = h.reached;
    closed = λ s. kept_more k now (h.closed s) here;
  }

  pub IsGrown-take : (k now next head : ℕ) → IsGrown reaches kept nodes start k now →
      ((i : ℕ) → Has next i ↔ (Has now i ⊎ Has head i)) → IsSubset head nodes →
      ((u : ℕ) → ((v : ℕ) → Has now v → reaches u v) → (i : ℕ) → Has head i → reaches u i) →
      (IsSubset head start → kept k) → IsGrown reaches kept nodes start (k + 1) next
  IsGrown-take k now next head h joins within reached here = record {
    grown = λ i old. (joins i).1 (inl (h.grown i old));
    within = λ i new. ⊎_elim (λ old. h.within i old) (within i) ((joins i).0 new);
    reached = λ u from v new. ⊎_elim (λ old. h.reached u from v old) (reached u (h.reached u from) v) ((joins v).0 new);
    closed = λ s. kept_more k now (h.closed (λ i old. s i ((joins i).1 (inl old))))
        (here (λ i new. s i ((joins i).1 (inr new))));
  }

-- after the first rounds: each added a node
pub record IsRound (reaches : ℕ → ℕ → Type 0) (nodes from round now : ℕ) : Type 0 where
  pub start : Has now from
  pub within : IsSubset now nodes
  pub reached : (v : ℕ) → Has now v → reaches from v
  pub many : round + 1 ≤ count_ones now

module _ (reaches : ℕ → ℕ → Type 0) (nodes from : ℕ) where
  pub IsRound-first : (none now : ℕ) → reaches from from → Has nodes from → ((i : ℕ) → Has none i → ⊥) →
      ((j : ℕ) → Has now j ↔ ((j ≡ from) ⊎ Has none j)) → IsRound reaches nodes from 0 now
  IsRound-first none now itself node empty members = record {
    start = here;
    within = λ j h. subst (Has nodes) (sym (alone j h)) node;
    reached = λ j h. subst (reaches from) (sym (alone j h)) itself;
    many = omega (arith, ones_some now from here);
  }
    where
      here : Has now from
      here = (members from).1 (inl refl)

      alone : (j : ℕ) → Has now j → j ≡ from
      alone j h = ⊎_elim (λ e. e) (λ g. absurd (empty j g)) ((members j).0 h)

  pub IsRound-more : (round now next : ℕ) → IsRound reaches nodes from round now → IsSubset now next →
      IsSubset next nodes → ((u : ℕ) → ((v : ℕ) → Has now v → reaches u v) → (v : ℕ) → Has next v → reaches u v) →
      (IsSubset next now → ⊥) → IsRound reaches nodes from (round + 1) next
  IsRound-more round now next h grown within reached f = record {
    start = grown from h.start;
    within = within;
    reached = reached from h.reached;
    many = omega (arith, h.many, ones-grow now next grown f);
  }

  -- there are fewer rounds than nodes
  pub IsRound-early : (round now : ℕ) → IsRound reaches nodes from round now → round + 1 ≤ count_ones nodes
  IsRound-early round now h = omega (arith, h.many, ones-below now nodes h.within)

  -- or than numbers below a bound on the nodes
  pub IsRound-within : (n round now : ℕ) → IsRound reaches nodes from round now → ((i : ℕ) → Has nodes i → i < n) →
      round + 1 ≤ n
  IsRound-within n round now h within = omega (arith, h.many, ones-within now n (λ i here. within i (h.within i here)))

-- the nodes that are reached from each of the first k nodes
pub record IsCommon (reaches : ℕ → ℕ → Type 0) (nodes k now : ℕ) : Type 0 where
  pub node : (t : ℕ) → Has now t → Has nodes t
  pub reached : (t : ℕ) → Has now t → (u : ℕ) → u < k → Has nodes u → reaches u t
  pub complete : (t : ℕ) → Has nodes t → ((u : ℕ) → Has nodes u → reaches u t) → Has now t

-- a node that is reached from every node
pub record IsLast (reaches : ℕ → ℕ → Type 0) (nodes t : ℕ) : Type 0 where
  pub node : Has nodes t
  pub reached : (u : ℕ) → Has nodes u → reaches u t

module _ (reaches : ℕ → ℕ → Type 0) (nodes : ℕ) where
  pub IsCommon-first : IsCommon reaches nodes 0 nodes
  IsCommon-first = record {
    node = λ t h. h;
    reached = λ t h u l. absurd (omega arith);
    complete = λ t node g. node;
  }

  pub IsCommon-more : (k now found next : ℕ) → IsCommon reaches nodes k now → Has nodes k →
      ((v : ℕ) → Has found v ↔ reaches k v) → ((i : ℕ) → Has next i ↔ (Has now i × Has found i)) →
      IsCommon reaches nodes (k + 1) next
  IsCommon-more k now found next h node closure both = record {
    node = λ t g. h.node t ((both t).0 g).0;
    reached = λ t g u l f. ⊎_elim (λ m. h.reached t ((both t).0 g).0 u m f)
        (λ m. subst (λ w. reaches w t) (omega arith) ((closure t).0 ((both t).0 g).1)) (cases_lt u k);
    complete = λ t n g. (both t).1 (h.complete t n g, (closure t).1 (g k node));
  }

  -- a node that reaches one of those before it reaches all that is common
  pub IsCommon-through : (k now d : ℕ) → IsCommon reaches nodes k now → d < k → Has nodes d → reaches k d →
      ((t : ℕ) → reaches d t → reaches k t) → IsCommon reaches nodes (k + 1) now
  IsCommon-through k now d h l node r over = record {
    node = h.node;
    reached = λ t g u m f. ⊎_elim (λ n. h.reached t g u n f) (λ n. subst (λ w. reaches w t) (omega arith)
        (over t (h.reached t g d l node))) (cases_lt u k);
    complete = h.complete;
  }

  pub IsCommon-skip : (k now : ℕ) → IsCommon reaches nodes k now → (Has nodes k → ⊥) →
      IsCommon reaches nodes (k + 1) now
  IsCommon-skip k now h out = record {
    node = h.node;
    reached = λ t g u l f. ⊎_elim (λ m. h.reached t g u m f) (λ m. absurd (out (subst (Has nodes) (omega arith) f)))
        (cases_lt u k);
    complete = h.complete;
  }

  pub IsCommon-all : (k now : ℕ) → IsCommon reaches nodes k now → ((u : ℕ) → Has nodes u → u < k) → (t : ℕ) →
      Has now t ↔ IsLast reaches nodes t
  IsCommon-all k now h within t = (
    λ g. record { node = h.node t g; reached = λ u f. h.reached t g u (within u f) f },
    λ
        l. h.complete t l.node l.reached,
  )

  pub IsCommon-none : (k now : ℕ) → IsCommon reaches nodes k now → ((i : ℕ) → Has now i → ⊥) → (t : ℕ) → Has now t ↔
      IsLast reaches nodes t
  IsCommon-none k now h none t = (λ g. absurd (none t g), λ l. h.complete t l.node l.reached)

-- the first k nodes
abbrev pub AreBefore : ℕ → ℕ → ℕ → Type 0
AreBefore nodes k before = (d : ℕ) → Has before d → (d < k) × Has nodes d

pub AreBefore-more : (nodes k before next : ℕ) → AreBefore nodes k before → Has nodes k →
    ((j : ℕ) → Has next j ↔ ((j ≡ k) ⊎ Has before j)) → AreBefore nodes (k + 1) next
AreBefore-more nodes k before next h node members d here = ⊎_elim
    (λ e. (omega (arith, e), subst (Has nodes) (sym e) node))
    (λ old. let p = h d old in (omega (arith, p.0), p.1))
    ((members d).0 here)

pub AreBefore-skip : (nodes k before : ℕ) → AreBefore nodes k before → AreBefore nodes (k + 1) before
AreBefore-skip nodes k before h d here = let p = h d here in (omega (arith, p.0), p.1)
