-- A round over the inequalities of a system, which finds the tangent hyperedges at x again.
use Rattle.std.proofs.Common.{◌≡◌, ◌⊎◌, ◌<◌, ◌≤◌, ◌+◌, ◌^◌, ◌*◌, ◌∙◌, ℕ, List, length, sym, subst, get_or, arith, ⊎_elim, min, add-mul}
use Rattle.std.proofs.Math.Nat.{mul-le-mul_right}
use Rattle.std.specs.Prelude.{◌↔◌, All, Contains, None}
use Rattle.std.proofs.lemmas.List.{get_or_default, get_or_past}
use Rattle.std.proofs.lemmas.List.Elements.{All-contains}
use Rattle.std.proofs.lemmas.Bool.{cases_lt}
use Rattle.trop_theory.specs.Semiring.{Semiring}
use Rattle.trop_theory.specs.Inequalities.{Inequality}
use Rattle.trop_criterion.specs.Hypergraphs.{Has, IsSubset, Hyperedge}
use Rattle.trop_criterion.specs.Tangents.{Attains, IsTight, TangentEdge, IsTangentOf}
use Rattle.trop_criterion.proofs.Reaching.{IsClosedAt, KeepsTangent, TangentReaches, IsReachedFromAll}
use Rattle.plain_lemmas.proofs.Decisions.{test_true, true_test}
use Rattle.trop_criterion.proofs.Hypergraphs.{member, decide_has}
use Rattle.trop_hyper.proofs.Rounds.{IsGrown, IsGrown-skip, IsGrown-take, IsRound, IsLast}
use Rattle.trop_tangent.proofs.Attained.{IsFinite}

module _ {V : Type 0} (R : Semiring V) (system : List (Inequality V)) (x : List V) where
  pub TangentReaches-itself : (u : ℕ) → TangentReaches R system x u u
  TangentReaches-itself u set here keeps = here

  -- the head of a hyperedge whose tail is reached
  TangentReaches-head : (p : Inequality V) (edge : Hyperedge) (u : ℕ) → Contains system p → TangentEdge R p x edge →
      ((j : ℕ) → Has edge.tail j → TangentReaches R system x u j) → (i : ℕ) → Has edge.head i →
      TangentReaches R system x u i
  TangentReaches-head p edge u c e tail i h set here keeps =
      All-contains (KeepsTangent R x set) system p keeps c e.tight (λ j a. tail j ((e.tail j).1 a) set here keeps) i
      ((e.head i).0 h)

  closed_keeps : (set : ℕ) → IsClosedAt R system x set → All (KeepsTangent R x (member set)) system
  closed_keeps set h k d l tight tail i here = test_true (decide_has set i)
      (h k d l tight (λ j a. true_test (decide_has set j) (tail j a)) i here)

  closed_has_at : (set u v : ℕ) → IsClosedAt R system x set → Has set u → TangentReaches R system x u v → Has set v
  closed_has_at set u v h here r = true_test (decide_has set v)
      (r (member set) (test_true (decide_has set u) here) (closed_keeps set h))

  -- the set has the head of the hyperedge of inequality j, if any, where it has its tail
  abbrev pub KeptAt : ℕ → ℕ → Type 0
  KeptAt set j = (d : Inequality V) → IsTight R (get_or system j d) x →
      ((k : ℕ) → Attains R (get_or system j d).right x k → Has set k) → (i : ℕ) →
      Attains R (get_or system j d).left x i → Has set i

  -- a round after the first k inequalities
  abbrev pub IsGrownAt : ℕ → ℕ → ℕ → ℕ → Type 0
  IsGrownAt nodes start = IsGrown (TangentReaches R system x) (KeptAt start) nodes start

  module _ (nodes start k now : ℕ) (p : Inequality V) (within : k < length system) (read : p ≡ get_or system k p) where
    KeptAt-read : (IsTight R p x → ((j : ℕ) → Attains R p.right x j → Has start j) → (i : ℕ) → Attains R p.left x i →
        Has start i) → KeptAt start k
    KeptAt-read h d = subst (λ q. IsTight R q x → ((j : ℕ) → Attains R q.right x j → Has start j) → (i : ℕ) →
        Attains R q.left x i → Has start i) (read ∙ get_or_default system k p d within) h

    pub skip_none : IsGrownAt nodes start k now → IsTangentOf R x p None → IsGrownAt nodes start (k + 1) now
    skip_none h none = IsGrown-skip (TangentReaches R system x) (KeptAt start) nodes start k now h
        (KeptAt-read (λ t. absurd (none t)))

    pub skip_tail : (edge : Hyperedge) → TangentEdge R p x edge → IsGrownAt nodes start k now →
        (IsSubset edge.tail now → ⊥) → IsGrownAt nodes start (k + 1) now
    skip_tail edge e h f = IsGrown-skip (TangentReaches R system x) (KeptAt start) nodes start k now h
        (KeptAt-read (λ t tail. absurd (f (λ j old. h.grown j (tail j ((e.tail j).0 old))))))

    pub take_head : (edge : Hyperedge) (next : ℕ) → TangentEdge R p x edge → IsSubset edge.head nodes →
        IsGrownAt nodes start k now → IsSubset edge.tail now → ((i : ℕ) → Has next i ↔ (Has now i ⊎ Has edge.head i)) →
        IsGrownAt nodes start (k + 1) next
    take_head edge next e among h tail joins =
        IsGrown-take (TangentReaches R system x) (KeptAt start) nodes start k now next edge.head h joins among
        (λ u from. TangentReaches-head p edge u (k, within, sym read) e (λ j t. from j (tail j t)))
        (λ s. KeptAt-read (λ t f i a. s i ((e.head i).1 a)))

  pub closed_system : (nodes start now : ℕ) → IsGrownAt nodes start (length system) now → IsSubset now start →
      IsClosedAt R system x start
  closed_system nodes start now h s j d l = h.closed s j l d

  pub round_last : (nodes from round now : ℕ) → IsRound (TangentReaches R system x) nodes from round now →
      IsClosedAt R system x now → (v : ℕ) → Has now v ↔ TangentReaches R system x from v
  round_last nodes from round now h closed v = (h.reached v, closed_has_at now from v closed h.start)

  -- a node is a coordinate
  pub node_within : (nodes : ℕ) → ((i : ℕ) → Has nodes i ↔ IsFinite R x i) → (u : ℕ) → Has nodes u → u < length x
  node_within nodes h u here = ⊎_elim (λ l. l) (λ l. absurd ((h u).0 here (get_or_past x u R.zero l)))
      (cases_lt u (length x))

  pub last_reached : (nodes now : ℕ) → ((i : ℕ) → Has nodes i ↔ IsFinite R x i) →
      ((t : ℕ) → Has now t ↔ IsLast (TangentReaches R system x) nodes t) → (t : ℕ) → Has now t ↔
      IsReachedFromAll R system x t
  last_reached nodes now h all t = (
    λ g. let l = (all t).0 g in record { finite = (h t).0 l.node; reached = λ u f. l.reached u ((h u).1 f) },
    λ g. (all t).1 (record { node = (h t).1 g.finite; reached = λ u f. g.reached u ((h u).0 f) }),
  )

-- a count after the closures of the first k nodes
pub record IsCountedFrom (nodes rounds length old k now : ℕ) : Type 0 where
  pub kept : old ≤ now
  pub at_most : now ≤ old + k * (rounds * length)
  pub at_least : (u : ℕ) → u < k → Has nodes u → 0 < length → min (old + 1) (2 ^ 62) ≤ now

module _ (nodes rounds length old : ℕ) where
  pub counted-first : IsCountedFrom nodes rounds length old 0 old
  counted-first = record { kept = omega arith; at_most = omega arith; at_least = λ u l. absurd (omega arith) }

  pub counted-more : (k now next : ℕ) → IsCountedFrom nodes rounds length old k now → now ≤ next →
      next ≤ now + rounds * length → (0 < length → min (now + 1) (2 ^ 62) ≤ next) →
      IsCountedFrom nodes rounds length old (k + 1) next
  counted-more k now next h l m n = record {
    kept = omega (arith, h.kept);
    at_most = omega (arith, h.at_most, add-mul k 1 (rounds * length));
    at_least = λ u p f q. omega (arith, h.kept, n q);
  }

  pub counted-skip : (k now : ℕ) → IsCountedFrom nodes rounds length old k now → (Has nodes k → ⊥) →
      IsCountedFrom nodes rounds length old (k + 1) now
  counted-skip k now h out = record {
    kept = h.kept;
    at_most = omega (arith, h.at_most, add-mul k 1 (rounds * length));
    at_least = λ u p f q. ⊎_elim (λ l. h.at_least u l f q) (λ l. absurd (out (subst (Has nodes) (omega arith) f)))
        (cases_lt u k);
  }

  pub counted-wider : (k more now : ℕ) → k ≤ more → IsCountedFrom nodes rounds length old k now →
      now ≤ old + more * (rounds * length)
  counted-wider k more now l h = omega (arith, h.at_most, mul-le-mul_right {m = k} {n = more} (rounds * length) l)
