-- Passes over the points of a control graph.
use Rattle.std.specs.Prelude.{◌≡◌, ◌⊎◌, ◌+◌, ◌<◌, ◌≤◌, ℕ, zero, suc, List, length, slice_index_or, slice_set, MatchBool}
use Rattle.prog_theory.specs.ControlGraphs.{ControlGraph, is_head}
use Rattle.dom_theory.specs.Places.{Head}
use Rattle.dom_theory.specs.Relations.{Relations, Join, Widen}
use Rattle.dom_theory.specs.Outcomes.{Outcome, Gives, Is, Then}
use Rattle.dom_theory.specs.Parts.{Asks}
use Rattle.dom_theory.specs.Places.{Spot}
use Rattle.dom_theory.specs.Sums.{Sum}

-- what stands at a point: its value, and how many times it has changed as a head
pub record Held (V : Type 0) : Type 0 where
  pub value : V
  pub changes : ℕ

-- what stands at each point
pub record Stage (V : Type 0) : Type 0 where
  pub values : List V
  pub changes : List ℕ

abbrev pub value_at : {V : Type 0} → Relations V → ControlGraph → Stage V → ℕ → V
value_at D G S q = slice_index_or S.values q (D.bottom G.vars)

abbrev pub changes_at : {V : Type 0} → Stage V → ℕ → ℕ
changes_at S q = slice_index_or S.changes q 0

abbrev pub put : {V : Type 0} → Stage V → ℕ → Held V → Stage V
put S q held = record { values = slice_set S.values q held.value; changes = slice_set S.changes q held.changes }

-- What a head with the value x, which has changed c times, becomes where the sum n reaches it.
pub data HeadStep {V : Type 0} (D : Relations V) (G : ControlGraph) (delay : ℕ) (spot : Spot) (x : V) (c : ℕ) (n : V)
    (r : Outcome (Held V)) : Type 0 where
  keeps : D.within n x → r ≡ Gives (record { value = x; changes = c }) → HeadStep D G delay spot x c n r
  joins : (D.within n x → ⊥) → (x ≡ D.bottom G.vars) ⊎ (c < delay) →
      Then (Asks D spot Head (Join x n)) (λ y. Is (record { value = y; changes = c + 1 })) r
      → HeadStep D G delay spot x c n r
  widens : (D.within n x → ⊥) → (x ≡ D.bottom G.vars → ⊥) → delay ≤ c →
      Then (Asks D spot Head (Widen x n)) (λ y. Is (record { value = y; changes = c + 1 })) r
      → HeadStep D G delay spot x c n r

-- In a pass of the ascent a head keeps its value or changes, and every other point takes its sum. A source below the
-- point has its value of this pass already, any other that of the pass before.
abbrev pub Rises : {V : Type 0} → Relations V → ControlGraph → ℕ → ℕ → Stage V → ℕ → Outcome (Held V) → Type 0
Rises D G delay pass S q = let spot : Spot = record { pass = pass; point = q } in
    Then (Sum D G spot (value_at D G S))
    (λ n r. MatchBool (is_head G q)
    (HeadStep D G delay spot (value_at D G S q) (changes_at S q) n r)
    (Is (record { value = n; changes = changes_at S q }) r))

-- in a pass of the narrowing every point takes its sum
abbrev pub Settles : {V : Type 0} → Relations V → ControlGraph → ℕ → Stage V → ℕ → Outcome (Held V) → Type 0
Settles D G pass S q = Then (Sum D G (record { pass = pass; point = q }) (value_at D G S))
    (λ n. Is (record { value = n; changes = changes_at S q }))

-- m points one after another, the first of them q
abbrev pub Points : {V : Type 0} → (Stage V → ℕ → Outcome (Held V) → Type 0) → ℕ → ℕ → Stage V → Outcome (Stage V)
    → Type 0
Points Step zero q S r = Is S r
Points Step (suc m) q S r = Then (Step S q) (λ held. Points Step m (q + 1) (put S q held)) r

-- all points in order
abbrev pub Pass : {V : Type 0} → (Stage V → ℕ → Outcome (Held V) → Type 0) → ControlGraph → Stage V → Outcome (Stage V)
    → Type 0
Pass Step G = Points Step (length G.points) 0
