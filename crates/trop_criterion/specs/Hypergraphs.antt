-- Directed hypergraphs: each hyperedge leads from a set of nodes, its tail, to a set of nodes, its head.
-- Gallo, Longo, Pallottino, Nguyen: Directed hypergraphs and applications (1993); Allamigeon, Gaubert, Goubault: The
-- tropical double description method (2010).
use Rattle.std.specs.Prelude.{◌≡◌, ℕ, Bool, List, All, IsTrue}
use Rattle.std.specs.Int.{bit_at}

-- number i is in the set whose members are the places of the ones of the word
abbrev pub Has : ℕ → ℕ → Type 0
Has set i = bit_at set i ≡ 1

-- each member of the first set is one of the second
abbrev pub IsSubset : ℕ → ℕ → Type 0
IsSubset a b = (i : ℕ) → Has a i → Has b i

pub record Hyperedge : Type 0 where
  pub tail : ℕ
  pub head : ℕ

-- the set has the head of the hyperedge, or it lacks a node of the tail
abbrev pub Keeps : (ℕ → Bool) → Hyperedge → Type 0
Keeps set edge = ((j : ℕ) → Has edge.tail j → IsTrue (set j)) → (i : ℕ) → Has edge.head i → IsTrue (set i)

-- node v is in each set that has u, and that has the head of each hyperedge whose tail it has
abbrev pub Reaches : List Hyperedge → ℕ → ℕ → Type 0
Reaches edges u v = (set : ℕ → Bool) → IsTrue (set u) → All (Keeps set) edges → IsTrue (set v)

-- its nodes, and its hyperedges in order
pub record Hypergraph : Type 0 where
  pub nodes : ℕ
  pub edges : List Hyperedge

-- both ends of the hyperedge are sets of nodes
pub record IsAmong (nodes : ℕ) (edge : Hyperedge) : Type 0 where
  pub tail : IsSubset edge.tail nodes
  pub head : IsSubset edge.head nodes

-- t is a node that is reached from every node; these nodes are the greatest strongly connected component
pub record IsGreatest (graph : Hypergraph) (t : ℕ) : Type 0 where
  pub node : Has graph.nodes t
  pub reached : (u : ℕ) → Has graph.nodes u → Reaches graph.edges u t

-- the set has the head of each hyperedge whose tail it has
abbrev pub IsClosed : List Hyperedge → ℕ → Type 0
IsClosed edges set = All (λ edge. IsSubset edge.tail set → IsSubset edge.head set) edges
