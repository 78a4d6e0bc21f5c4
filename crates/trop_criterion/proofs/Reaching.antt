-- What is reached by the tangent hyperedges of a system, said by its inequalities without the words that hold the
-- hyperedges: Edges shows that it is what is reached in the tangent hypergraph.
use Rattle.std.specs.Prelude.{◌≡◌, ◌≢◌, ◌↔◌, ℕ, Bool, List, All, IsTrue, Option, Some, None, filter_map}
use Rattle.std.specs.List.{AllZip}
use Rattle.trop_theory.specs.Semiring.{Semiring}
use Rattle.trop_theory.specs.Vectors.{entry, dot}
use Rattle.trop_theory.specs.Inequalities.{Inequality}
use Rattle.trop_criterion.specs.Hypergraphs.{Has, Hyperedge}
use Rattle.trop_criterion.specs.Tangents.{Attains, IsTight}

-- the set has the head of the hyperedge that the inequality gives at x, if any, or it lacks a node of the tail
abbrev pub KeepsTangent : {V : Type 0} → Semiring V → List V → (ℕ → Bool) → Inequality V → Type 0
KeepsTangent R x set p = IsTight R p x → ((j : ℕ) → Attains R p.right x j → IsTrue (set j)) → (i : ℕ) →
    Attains R p.left x i → IsTrue (set i)

-- v is reached from u by the tangent hyperedges of the system at x
abbrev pub TangentReaches : {V : Type 0} → Semiring V → List (Inequality V) → List V → ℕ → ℕ → Type 0
TangentReaches R system x u v = (set : ℕ → Bool) → IsTrue (set u) → All (KeepsTangent R x set) system → IsTrue (set v)

-- t is a node that is reached from every node
pub record IsReachedFromAll {V : Type 0} (R : Semiring V) (system : List (Inequality V)) (x : List V)
    (t : ℕ) : Type 0 where
  pub finite : entry R x t ≢ R.zero
  pub reached : (u : ℕ) → entry R x u ≢ R.zero → TangentReaches R system x u t

-- the set, as a word, has the head of each tangent hyperedge at x whose tail it has
abbrev pub IsClosedAt : {V : Type 0} → Semiring V → List (Inequality V) → List V → ℕ → Type 0
IsClosedAt R system x set = All (λ p. IsTight R p x → ((j : ℕ) → Attains R p.right x j → Has set j) → (i : ℕ) →
    Attains R p.left x i → Has set i) system
