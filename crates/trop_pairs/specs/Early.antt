-- The early test of a pair: which hyperedges of a parent leave a node alone no longer in the sum.
-- Allamigeon, Gaubert, Goubault: Computing the vertices of tropical polyhedra using directed hypergraphs (2013).
use Rattle.std.specs.Prelude.{◌≡◌, ◌⊎◌, ℕ}
use Rattle.trop_theory.specs.Semiring.{Semiring}
use Rattle.trop_criterion.specs.Hypergraphs.{Has}
use Rattle.trop_pruning.specs.Slots.{Slot}
use Rattle.trop_pruning.specs.PairEdges.{edge_of}
use Rattle.trop_pruning.specs.Open.{HoldsBack}

-- The hyperedge of the first slot does not leave u alone in the sum: it does not at the first row, or the multiple of
-- its right sum is not the greater of both, or the second row reaches the sum at another coordinate too.
abbrev pub IsSpared : {V : Type 0} → Semiring V → V → V → Slot V → Slot V → ℕ → Type 0
IsSpared R l m first second u = HoldsBack u (edge_of first)
    ⊎ ((R.times l first.sum ≡ R.plus (R.times l first.sum) (R.times m second.sum) → ⊥)
    ⊎ ((R.times l first.sum ≡ R.times m second.sum) × (((j : ℕ) → Has second.tail j → j ≡ u) → ⊥)))
