-- The tangent directed hypergraph of a system of inequalities at a solution x. Its nodes are the coordinates where x
-- is finite. An inequality whose two sums at x are equal and finite gives one hyperedge, from the coordinates where
-- the right side reaches this sum to those where the left side does.
-- Allamigeon, Gaubert, Goubault: The tropical double description method (2010).
use Rattle.std.specs.Prelude.{◌≡◌, ◌≢◌, ◌↔◌, ℕ, Bool, List, All, IsTrue, Option, Some, None, filter_map}
use Rattle.std.specs.List.{AllZip}
use Rattle.trop_theory.specs.Semiring.{Semiring}
use Rattle.trop_theory.specs.Vectors.{entry, dot}
use Rattle.trop_theory.specs.Inequalities.{Inequality}
use Rattle.trop_criterion.specs.Hypergraphs.{Has, Hyperedge}

-- coordinate j of the side reaches its sum at x
abbrev pub Attains : {V : Type 0} → Semiring V → List V → List V → ℕ → Type 0
Attains R side x j = R.times (entry R side j) (entry R x j) ≡ dot R side x

-- the two sums at x are equal and finite
pub record IsTight {V : Type 0} (R : Semiring V) (p : Inequality V) (x : List V) : Type 0 where
  pub equal : dot R p.left x ≡ dot R p.right x
  pub finite : dot R p.right x ≢ R.zero

pub record TangentEdge {V : Type 0} (R : Semiring V) (p : Inequality V) (x : List V) (edge : Hyperedge) : Type 0 where
  pub tight : IsTight R p x
  pub tail : (j : ℕ) → Has edge.tail j ↔ Attains R p.right x j
  pub head : (i : ℕ) → Has edge.head i ↔ Attains R p.left x i

-- the hyperedge that the inequality gives at x, none where its two sums differ or are the zero
abbrev pub IsTangentOf : {V : Type 0} → Semiring V → List V → Inequality V → Option Hyperedge → Type 0
IsTangentOf R x p None = IsTight R p x → ⊥
IsTangentOf R x p (Some edge) = TangentEdge R p x edge

-- the hyperedges of the inequalities that give one, in their order
pub record AreTangents {V : Type 0} (R : Semiring V) (system : List (Inequality V)) (x : List V)
    (edges : List Hyperedge) : Type 0 where
  pub each : List (Option Hyperedge)
  pub given : AllZip (IsTangentOf R x) system each
  pub listed : edges ≡ filter_map (λ edge. edge) each
