-- The edges into each point.
use Rattle.std.specs.Prelude.{◌≡◌, ◌<◌, ◌+◌, ◌==◌, ℕ, List, [], ◌∷◌, map, length, slice_index_or, if◌then◌else◌}
use Rattle.std.specs.Global.{Vec}
use Rattle.prog_theory.specs.Edges as theory
use Rattle.prog_graph.specs.declared.parts.Edge.{Edge}

-- the places of the point p among the targets, which are counted from k
abbrev pub numbers_from : ℕ → ℕ → List ℕ → List ℕ
numbers_from k p [] = []
numbers_from k p (t ∷ ts) = if t == p then k ∷ numbers_from (k + 1) p ts else numbers_from (k + 1) p ts

-- the numbers of the edges that go to the point p, ascending
abbrev pub numbers_to : ℕ → List theory.Edge → List ℕ
numbers_to p edges = numbers_from 0 p (map (λ e. e.to) edges)

abbrev pub targets : List Edge → List ℕ
targets edges = map (λ e. e.to) edges

abbrev pub numbers_of : List (Vec ℕ) → List (List ℕ)
numbers_of vs = map (λ v. v.items) vs

-- a list for each of so many points: the places of the point among the targets
pub record AreInto (lists : List (List ℕ)) (count : ℕ) (ts : List ℕ) : Type 0 where
  pub many : length lists ≡ count
  pub each : (p : ℕ) → p < count → slice_index_or lists p [] ≡ numbers_from 0 p ts
