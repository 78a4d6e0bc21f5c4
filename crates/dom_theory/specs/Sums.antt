-- What reaches a point along the edges to it.
use Rattle.std.specs.Prelude.{◌+◌, ◌==◌, ℕ, zero, suc, List, [], ◌∷◌, MatchBool}
use Rattle.prog_theory.specs.Edges.{Edge}
use Rattle.prog_theory.specs.ControlGraphs.{ControlGraph}
use Rattle.dom_theory.specs.Places.{Edge as EdgePart, Sum as SumPart}
use Rattle.dom_theory.specs.Relations.{Relations, Apply, Join}
use Rattle.dom_theory.specs.Outcomes.{Outcome, Is, Then}
use Rattle.dom_theory.specs.Parts.{Asks}
use Rattle.dom_theory.specs.Places.{Spot}

-- along the edge with the number k: where it goes to the point, n is joined with the image of the value of its source
abbrev pub Adds : {V : Type 0} → Relations V → Spot → (ℕ → V) → ℕ → Edge → V → Outcome V → Type 0
Adds D spot value k e n r = MatchBool (e.to == spot.point)
    (Then (Asks D spot (EdgePart k) (Apply e.op (value e.from))) (λ image. Asks D spot (SumPart k) (Join n image)) r)
    (Is n r)

-- along the edges in order, of which the first has the number k
abbrev pub AddsAll : {V : Type 0} → Relations V → Spot → (ℕ → V) → ℕ → List Edge → V → Outcome V → Type 0
AddsAll D spot value k [] n r = Is n r
AddsAll D spot value k (e ∷ edges) n r = Then (Adds D spot value k e n) (AddsAll D spot value (k + 1) edges) r

-- everything at point 0, nothing elsewhere
abbrev pub before_edges : {V : Type 0} → Relations V → ControlGraph → ℕ → V
before_edges D G zero = D.top G.vars
before_edges D G (suc q) = D.bottom G.vars

-- the join of the images by all edges to the point, and of everything at point 0
abbrev pub Sum : {V : Type 0} → Relations V → ControlGraph → Spot → (ℕ → V) → Outcome V → Type 0
Sum D G spot value = AddsAll D spot value 0 G.edges (before_edges D G spot.point)
