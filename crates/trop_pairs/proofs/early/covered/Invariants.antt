use Rattle.std.proofs.Common.{ℕ, take}
use Rattle.std.specs.Prelude.{All}
use Rattle.trop_criterion.specs.Hypergraphs.{Has}
use Rattle.trop_pruning.specs.PairEdges.{slot_at}
use Rattle.trop_pairs.specs.Early.{IsSpared}
use Rattle.trop_pairs.proofs.early.covered.Given as goal

abbrev pub invariant-loop-place : goal.invariant-loop-place
invariant-loop-place g l = (u : ℕ) → (Has l.covered u → ⊥) → (Has l.fn.start u → ⊥) ×
    All (λ k. IsSpared g.S.Scalar.ring l.left l.right (slot_at g.S.Scalar.ring l.first k)
    (slot_at g.S.Scalar.ring l.second k) u) (take l.place-index l.places)
