-- What stands between two inequalities, while the rows of the smaller cone are looked for.
use Rattle.std.specs.Prelude.{◌≡◌, ◌≢◌, ◌+◌, ◌^◌, ◌<◌, ◌≤◌, ℕ, min, List, [], ◌∷◌, ◌++◌, length, slice_index_or, All, AllPairs, Contains, Some}
use Rattle.trop_theory.specs.Sizes.{most_coefficient, most_mixed, most_scaled}
use Rattle.trop_theory.specs.Semiring.{Semiring}
use Rattle.trop_theory.specs.Vectors.{scaled, joined, row_size}
use Rattle.trop_theory.specs.Normal.{IsNormal, Normalises}
use Rattle.trop_theory.specs.Inequalities.{Inequality, Solves, inequality_size, system_size}
use Rattle.trop_theory.specs.Extreme.{IsExtreme}
use Rattle.trop_theory.specs.Canonical.{RowBelow}
use Rattle.trop_theory.specs.Steps.{mixed}
use Rattle.trop_theory.proofs.Truth.{HoldsOf}
use Rattle.trop_criterion.specs.Hypergraphs.{Has, Hyperedge}
use Rattle.trop_pruning.specs.Slots.{Slot}
use Rattle.trop_pruning.specs.Edges.{HaveEdges}
use Rattle.trop_pruning.specs.Pairs.{GivesTyped}
use Rattle.trop_pruning.specs.Judged.{Side, IsSide, IsPair, IsJudged}
use Rattle.trop_dd.specs.declared.splitting.Kept.{Kept}
use Rattle.trop_dd.specs.declared.splitting.Dropped.{Dropped}
use Rattle.trop_dd.specs.Carried.{found_rows}

-- Rows of the canonical list of the cone after one more inequality that were found so far, by their numbers in their
-- order: of the old rows those at which p is true, and new ones with what is carried beside them.
pub record AreFound {V : Type 0} (R : Semiring V) (n : ℕ) (system : List (Inequality V)) (p : Inequality V)
    (sides fresh : List (Side V)) (order : List ℕ) : Type 0 where
  pub within : All (λ k. k < length (sides ++ fresh)) order
  pub stay : All (λ k. (d : Side V) → k < length sides → HoldsOf R p.left p.right (slice_index_or sides k d).row) order
  pub few : length fresh ≤ length order
  pub carried : All (IsSide R n (system ++ p ∷ [])) fresh
  pub ascending : AllPairs (RowBelow R) (found_rows sides fresh order)
  pub normal : All (IsNormal R) (found_rows sides fresh order)
  pub extreme : All (IsExtreme R (Solves R n (system ++ p ∷ []))) (found_rows sides fresh order)

-- every row that was found stays found, and each new one was looked at
pub record Grows {V : Type 0} (old new : List (List V)) (before after : ℕ) : Type 0 where
  pub stay : All (Contains new) old
  pub counted : min (before + length new) (2 ^ 62 + length old) ≤ after + length old

-- each typed row that the kept and the dropped row at these places give was found
abbrev pub HasGiven : {V : Type 0} → Semiring V → ℕ → List (Inequality V) → Inequality V → List (Side V) →
    List (List V) → Kept V → Dropped V → Type 0
HasGiven {V} R n system p sides found kept dropped = (d e : Side V) (x : List V) (t : ℕ) →
    GivesTyped R n system p (slice_index_or sides kept.place d).row (slice_index_or sides dropped.place e).row x t →
    Contains found x

-- A kept and a dropped row of the cone with what is carried beside them, of sizes that can be added, and the slot of
-- the new inequality at what they give, which solves the longer system.
pub record IsFit {V : Type 0} (R : Semiring V) (n : ℕ) (system : List (Inequality V)) (p : Inequality V) (v w : Side V)
    (l m : V) (slot : Slot V) : Type 0 where
  pub pair : IsPair R n system p v w l m slot
  pub normal : IsNormal R w.row
  pub size : system_size R system ≤ most_coefficient
  pub last_size : inequality_size R p ≤ most_coefficient
  pub first_size : row_size R v.row ≤ most_mixed
  pub second_size : row_size R w.row ≤ most_mixed
  pub solves : (x : List V) → Normalises R (mixed R p.left p.right v.row w.row) x → Solves R n (system ++ p ∷ []) x

-- the pair gives a row of these types, whose tangent hyperedges are in the room
pub record IsGiven {V : Type 0} (R : Semiring V) (n : ℕ) (system : List (Inequality V)) (p : Inequality V)
    (v w : List V) (types : ℕ) (edges : List Hyperedge) : Type 0 where
  pub judged : IsJudged R n system p v w (Some types)
  pub have : (x : List V) → Normalises R (mixed R p.left p.right v w) x → Solves R n (system ++ p ∷ []) x →
      HaveEdges R (system ++ p ∷ []) x edges
  pub tails : All (λ edge. (j : ℕ) × Has edge.tail j) edges

-- the multiple that brings l times v plus m times w to normal form
pub record IsFactor {V : Type 0} (R : Semiring V) (l m : V) (v w : List V) (by : V) : Type 0 where
  pub finite : by ≢ R.zero
  pub normal : IsNormal R (scaled R by (joined R (scaled R l v) (scaled R m w)))
  pub size : R.size by ≤ most_scaled

-- by brings the pair to normal form, as first times v plus second times w
pub record AreMultiples {V : Type 0} (R : Semiring V) (n : ℕ) (system : List (Inequality V)) (p : Inequality V)
    (v w : Side V) (slot : Slot V) (by first second : V) : Type 0 where
  pub left : V
  pub right : V
  pub fit : IsFit R n system p v w left right slot
  pub normalises : IsFactor R left right v.row w.row by
  pub is_first : first ≡ R.times by left
  pub is_second : second ≡ R.times by right
