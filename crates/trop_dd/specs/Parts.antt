-- The rows at which an inequality is true, and the others, by their places in a list.
use Rattle.std.specs.Prelude.{◌≡◌, ◌≢◌, ◌<◌, ◌↔◌, ℕ, List, length, All, Any, AllPairs, Contains, slice_index_or}
use Rattle.trop_theory.specs.Semiring.{Semiring}
use Rattle.trop_theory.specs.Vectors.{dot}
use Rattle.trop_theory.specs.Inequalities.{Inequality}
use Rattle.trop_theory.proofs.Truth.{HoldsOf}
use Rattle.trop_criterion.specs.Hypergraphs.{Has}
use Rattle.trop_criterion.specs.Tangents.{Attains}
use Rattle.trop_pruning.specs.Slots.{IsSlot}
use Rattle.trop_pruning.specs.Judged.{Side}
use Rattle.trop_pruning.specs.Kept.{IsAddition}
use Rattle.trop_pairs.specs.declared.keeping.Addition.{Addition}
use Rattle.trop_dd.specs.declared.splitting.Kept.{Kept}
use Rattle.trop_dd.specs.declared.splitting.Dropped.{Dropped}

-- the row at the place is kept, the slot is that of the inequality there, and its right sum is finite
pub record IsKept {V : Type 0} (R : Semiring V) (p : Inequality V) (sides : List (Side V))
    (part : Kept V) : Type 0 where
  pub within : part.place < length sides
  pub holds : (d : Side V) → HoldsOf R p.left p.right (slice_index_or sides part.place d).row
  pub is_slot : (d : Side V) → IsSlot R (slice_index_or sides part.place d).row p part.slot
  pub finite : part.slot.sum ≢ R.zero

-- the row at the place is dropped, with its left sum, the coordinates that reach it, and its words
pub record IsDropped {V : Type 0} (R : Semiring V) (p : Inequality V) (sides : List (Side V))
    (part : Dropped V) : Type 0 where
  pub within : part.place < length sides
  pub fails : (d : Side V) → HoldsOf R p.left p.right (slice_index_or sides part.place d).row → ⊥
  pub is_sum : (d : Side V) → part.sum ≡ dot R p.left (slice_index_or sides part.place d).row
  pub reaches : (d : Side V) (i : ℕ) → Has part.reached i ↔ Attains R p.left (slice_index_or sides part.place d).row i
  pub is_words : (d : Side V) → part.words ≡ (slice_index_or sides part.place d).words

-- the first m of the rows are split: the places of those that stay, the kept ones of these whose right sum is finite,
-- and the dropped ones
pub record IsSplit {V : Type 0} (R : Semiring V) (p : Inequality V) (sides : List (Side V)) (m : ℕ) (stay : List ℕ)
    (kept : List (Kept V)) (dropped : List (Dropped V)) : Type 0 where
  pub stay_ascending : AllPairs (λ i j. i < j) stay
  pub stay_each : All (λ k. (k < m) × ((d : Side V) → HoldsOf R p.left p.right (slice_index_or sides k d).row)) stay
  pub stay_all : (k : ℕ) (d : Side V) → k < m → HoldsOf R p.left p.right (slice_index_or sides k d).row →
      Contains stay k
  pub kept_each : All (IsKept R p sides) kept
  pub kept_all : (k : ℕ) (d : Side V) → k < m → HoldsOf R p.left p.right (slice_index_or sides k d).row →
      dot R p.right (slice_index_or sides k d).row ≢ R.zero → Any (λ part. part.place ≡ k) kept
  pub dropped_each : All (IsDropped R p sides) dropped
  pub dropped_all : (k : ℕ) (d : Side V) → k < m → (HoldsOf R p.left p.right (slice_index_or sides k d).row → ⊥) →
      Any (λ part. part.place ≡ k) dropped

-- what is put beside each of the first m rows at which p is true; of the others nothing is said
pub record AreAdditions {V : Type 0} (R : Semiring V) (n : ℕ) (system : List (Inequality V)) (p : Inequality V)
    (sides : List (Side V)) (m : ℕ) (additions : List (Addition V)) : Type 0 where
  pub many : length additions ≡ m
  pub each : (k : ℕ) (d : Side V) (e : Addition V) → k < m → HoldsOf R p.left p.right (slice_index_or sides k d).row →
      IsAddition R n system p (slice_index_or sides k d) (slice_index_or additions k e).slot
      (slice_index_or additions k e).types (slice_index_or additions k e).alone
