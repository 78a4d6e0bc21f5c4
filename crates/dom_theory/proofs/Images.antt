-- The states of a sum.
use Rattle.std.proofs.Common.{◌≡◌, inl, inr, ◌+◌, ◌<◌, ℕ, zero, suc, List, [], ◌∷◌, length, subst, get_or, Contains, ◌==◌, arith}
use Rattle.std.proofs.lemmas.Bool.{eqb-false}
use Rattle.prog_theory.specs.Edges.{Edge}
use Rattle.prog_theory.specs.ControlGraphs.{ControlGraph}
use Rattle.prog_theory.specs.States.{State}
use Rattle.prog_theory.specs.Walks.{Leads}
use Rattle.dom_theory.specs.Places.{Edge as EdgePart, Sum as SumPart}
use Rattle.dom_theory.specs.Relations.{Relations, Apply, Join}
use Rattle.dom_theory.specs.Laws.{StateLaws}
use Rattle.dom_theory.specs.Places.{Spot}
use Rattle.dom_theory.specs.Outcomes.{Gives}
use Rattle.dom_theory.specs.Parts.{Asks}
use Rattle.dom_theory.specs.Sums.{Adds, AddsAll, Sum, before_edges}
use Rattle.dom_theory.proofs.Given.{MatchBool-cases, Is-gives, Then-gives, Asks-gives}

Adds-keeps : {V : Type 0} (D : Relations V) (spot : Spot) (value : ℕ → V) (k : ℕ) (e : Edge) (n m : V) (s : State)
    → StateLaws D → D.has n s → Adds D spot value k e n (Gives m) → D.has m s
Adds-keeps D spot value k e n m s laws has h = elim (MatchBool-cases (e.to == spot.point) _ _ h) [
  | inl w ↦
      let t = Then-gives (Asks D spot (EdgePart k) (Apply e.op (value e.from)))
      (λ image. Asks D spot (SumPart k) (Join n image)) m w.1 in
      let j = Asks-gives D spot (SumPart k) (Join n t.0) m t.2 in
      laws.left n t.0 m s j.1 has
  | inr w ↦ rw (Is-gives n m w.1) has
]

Adds-image : {V : Type 0} (D : Relations V) (spot : Spot) (value : ℕ → V) (k : ℕ) (e : Edge) (n m : V) (s t : State)
    → StateLaws D → e.to ≡ spot.point → D.has (value e.from) s → Leads e.op s t →
    Adds D spot value k e n (Gives m) → D.has m t
Adds-image D spot value k e n m s t laws same has leads h = elim (MatchBool-cases (e.to == spot.point) _ _ h) [
  | inl w ↦
      let u = Then-gives (Asks D spot (EdgePart k) (Apply e.op (value e.from)))
      (λ image. Asks D spot (SumPart k) (Join n image)) m w.1 in
      let a = Asks-gives D spot (EdgePart k) (Apply e.op (value e.from)) u.0 u.1 in
      let j = Asks-gives D spot (SumPart k) (Join n u.0) m u.2 in
      laws.right n u.0 m t j.1 (laws.applied e.op (value e.from) u.0 s t a.1 has leads)
  | inr w ↦ absurd (eqb-false e.to spot.point w.0 same)
]

AddsAll-keeps : {V : Type 0} (D : Relations V) (spot : Spot) (value : ℕ → V) (k : ℕ) (edges : List Edge) (n m : V)
    (s : State) → StateLaws D → D.has n s → AddsAll D spot value k edges n (Gives m) → D.has m s
AddsAll-keeps D spot value k [] n m s laws has h = rw (Is-gives n m h) has
AddsAll-keeps D spot value k (e ∷ edges) n m s laws has h =
    let t = Then-gives (Adds D spot value k e n) (AddsAll D spot value (k + 1) edges) m h in
    AddsAll-keeps D spot value (k + 1) edges t.0 m s laws (Adds-keeps D spot value k e n t.0 s laws has t.1) t.2

AddsAll-image : {V : Type 0} (D : Relations V) (spot : Spot) (value : ℕ → V) (k : ℕ) (edges : List Edge) (n m : V)
    (j : ℕ) (e : Edge) (s t : State) → StateLaws D → j < length edges → get_or edges j e ≡ e →
    e.to ≡ spot.point → D.has (value e.from) s → Leads e.op s t → AddsAll D spot value k edges n (Gives m) → D.has m t
AddsAll-image D spot value k [] n m j e s t laws inside is same has leads h = absurd (omega arith)
AddsAll-image D spot value k (x ∷ edges) n m zero e s t laws inside is same has leads h =
    let u = Then-gives (Adds D spot value k x n) (AddsAll D spot value (k + 1) edges) m h in
    let a = subst (λ y. Adds D spot value k y n (Gives u.0)) is u.1 in
    AddsAll-keeps D spot value (k + 1) edges u.0 m t laws (Adds-image D spot value k e n u.0 s t laws same has leads a)
    u.2
AddsAll-image D spot value k (x ∷ edges) n m (suc j) e s t laws inside is same has leads h =
    let u = Then-gives (Adds D spot value k x n) (AddsAll D spot value (k + 1) edges) m h in
    AddsAll-image D spot value (k + 1) edges u.0 m j e s t laws (omega arith) is same has leads u.2

-- the image along each edge to the point is in the sum
pub Sum-image : {V : Type 0} (D : Relations V) (G : ControlGraph) (spot : Spot) (value : ℕ → V) (n : V) (e : Edge)
    (s t : State) → StateLaws D → Contains G.edges e → e.to ≡ spot.point →
    D.has (value e.from) s → Leads e.op s t → Sum D G spot value (Gives n) → D.has n t
Sum-image D G spot value n e s t laws inside same has leads h =
    AddsAll-image D spot value 0 G.edges (before_edges D G spot.point) n inside.0 e s t laws inside.1 inside.2 same has
    leads h

-- each state is in the sum of point 0
pub Sum-begins : {V : Type 0} (D : Relations V) (G : ControlGraph) (spot : Spot) (value : ℕ → V) (n : V) (s : State)
    → StateLaws D → spot.point ≡ 0 → length s ≡ G.vars → Sum D G spot value (Gives n) → D.has n s
Sum-begins D G spot value n s laws zero_point wide h =
    AddsAll-keeps D spot value 0 G.edges (before_edges D G spot.point) n s laws (rw zero_point (laws.all G.vars s wide))
    h
