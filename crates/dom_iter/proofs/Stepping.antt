-- Sums and steps at a point.
use Rattle.std.proofs.Common.{◌≡◌, ◌+◌, ◌<◌, ℕ, zero, suc, List, [], ◌∷◌, length, All, refl, true, false, get_or, Result, Ok, Err, IfOk, arith}
use Rattle.std.proofs.lemmas.List.{set-get_or}
use Rattle.prog_theory.specs.Edges.{Edge}
use Rattle.prog_theory.specs.ControlGraphs.{ControlGraph, is_head}
use Rattle.prog_theory.specs.GraphKeeps.{IsControlGraph}
use Rattle.dom_theory.specs.Relations.{Relations}
use Rattle.dom_theory.specs.Laws.{VarsLaws}
use Rattle.dom_theory.specs.Places.{Spot}
use Rattle.dom_iter.specs.declared.error.IterErr.{IterErr}
use Rattle.dom_iter.specs.Comes.{StopsAt, Comes}
use Rattle.dom_iter.specs.Fair.{AreValues}
use Rattle.dom_theory.specs.Outcomes.{Outcome, Gives, Stops, goes, stops}
use Rattle.dom_theory.specs.Sums.{Adds, AddsAll, Sum, before_edges}
use Rattle.dom_theory.specs.Passes.{Held, Stage, value_at, changes_at, put, HeadStep, Rises, Settles}
use Rattle.dom_iter.proofs.Comes.{StopsAt-in}
use Rattle.dom_theory.proofs.Given.{Then-gives, Is-gives}
use Rattle.dom_iter.proofs.Adding.{Adds-vars}
use Rattle.std.proofs.lemmas.List.Elements.{All-head, All-tail, All-weaker}

pub AddsAll-vars : {V : Type 0} (D : Relations V) (spot : Spot) (value : ℕ → V) (k bound : ℕ) (edges : List Edge)
    (n m : V) (vars : ℕ) → VarsLaws D → D.vars n ≡ vars →
    ((q : ℕ) → q < bound → D.vars (value q) ≡ vars) → All (λ e. e.from < bound) edges
    → AddsAll D spot value k edges n (Gives m) → D.vars m ≡ vars
AddsAll-vars D spot value k bound [] n m vars laws vn each within h = let same : m ≡ n = Is-gives n m h in rw same vn
AddsAll-vars D spot value k bound (e ∷ edges) n m vars laws vn each within h =
    let t = Then-gives (Adds D spot value k e n) (AddsAll D spot value (k + 1) edges) m h in
    AddsAll-vars D spot value (k + 1) bound edges t.0 m vars laws
    (Adds-vars D spot value k e n t.0 vars laws vn
    (each e.from (All-head (λ (x : Edge). x.from < bound) e edges within)) t.1) each
    (All-tail (λ (x : Edge). x.from < bound) e edges within) t.2

pub before_edges-vars : {V : Type 0} (D : Relations V) (G : ControlGraph) (q : ℕ) → VarsLaws D
    → D.vars (before_edges D G q) ≡ G.vars
before_edges-vars D G zero laws = laws.top G.vars
before_edges-vars D G (suc q) laws = laws.bottom G.vars

pub Sum-vars : {V : Type 0} (D : Relations V) (G : ControlGraph) (spot : Spot) (value : ℕ → V) (bound : ℕ) (m : V)
    → VarsLaws D →
    ((q : ℕ) → q < bound → D.vars (value q) ≡ G.vars) → All (λ e. e.from < bound) G.edges → Sum D G spot value (Gives m)
    → D.vars m ≡ G.vars
Sum-vars D G spot value bound m laws each within h = AddsAll-vars D spot value 0 bound G.edges
    (before_edges D G spot.point) m G.vars laws (before_edges-vars D G spot.point laws) each within h

pub Rises-other : {V : Type 0} (D : Relations V) (G : ControlGraph) (delay pass : ℕ) (S : Stage V) (q : ℕ) (n : V)
    → is_head G q ≡ false →
    Sum D G (record { pass = pass; point = q }) (value_at D G S) (Gives n)
    → Rises D G delay pass S q (Gives (record { value = n; changes = changes_at S q }))
Rises-other D G delay pass S q n hd h = goes n h (rw hd refl)

pub Rises-head : {V : Type 0} (D : Relations V) (G : ControlGraph) (delay pass : ℕ) (S : Stage V) (q : ℕ) (n : V)
    (r : Outcome (Held V)) → is_head G q ≡ true →
    Sum D G (record { pass = pass; point = q }) (value_at D G S) (Gives n) →
    HeadStep D G delay (record { pass = pass; point = q }) (value_at D G S q) (changes_at S q) n r
    → Rises D G delay pass S q r
Rises-head D G delay pass S q n r hd h step = goes n h (rw hd step)

pub Rises-stops : {V : Type 0} (D : Relations V) (G : ControlGraph) (delay pass : ℕ) (S : Stage V) (q : ℕ) (n : V)
    (e : IterErr) → is_head G q ≡ true →
    Sum D G (record { pass = pass; point = q }) (value_at D G S) (Gives n) →
    StopsAt (HeadStep D G delay (record { pass = pass; point = q }) (value_at D G S q) (changes_at S q) n) e
    → StopsAt (Rises D G delay pass S q) e
Rises-stops D G delay pass S q n e hd h step =
    StopsAt-in (HeadStep D G delay (record { pass = pass; point = q }) (value_at D G S q) (changes_at S q) n)
    (Rises D G delay pass S q)
    (λ s x. Rises-head D G delay pass S q n (Stops s) hd h x) e step

-- where the sum stops, so does the point
pub Rises-sum_stops : {V : Type 0} (D : Relations V) (G : ControlGraph) (delay pass : ℕ) (S : Stage V) (q : ℕ)
    (e : IterErr) →
    StopsAt (Sum D G (record { pass = pass; point = q }) (value_at D G S)) e → StopsAt (Rises D G delay pass S q) e
Rises-sum_stops D G delay pass S q e h =
    StopsAt-in (Sum D G (record { pass = pass; point = q }) (value_at D G S)) (Rises D G delay pass S q)
    (λ s x. stops s x refl) e h

pub Settles-sum_stops : {V : Type 0} (D : Relations V) (G : ControlGraph) (pass : ℕ) (S : Stage V) (q : ℕ) (e : IterErr)
    →
    StopsAt (Sum D G (record { pass = pass; point = q }) (value_at D G S)) e → StopsAt (Settles D G pass S q) e
Settles-sum_stops D G pass S q e h =
    StopsAt-in (Sum D G (record { pass = pass; point = q }) (value_at D G S)) (Settles D G pass S q)
    (λ s x. stops s x refl) e h

-- each edge leaves a point of the graph
pub sources : {V : Type 0} (G : ControlGraph) (values : List V) → length values ≡ length G.points → IsControlGraph G
    → All (λ e. e.from < length values) G.edges
sources G values same sound = All-weaker (λ (e : Edge). (e.from < length G.points) × (e.to < length G.points))
    (λ (e : Edge). e.from < length values) (λ e h. let x = h.0 in omega arith) G.edges sound.joins

pub Sum-Ok-vars : {V : Type 0} (D : Relations V) (G : ControlGraph) (spot : Spot) (values : List V)
    (r : Result V IterErr) → VarsLaws D → AreValues D G values → IsControlGraph G →
    Comes (Sum D G spot (λ q. get_or values q (D.bottom G.vars))) r → IfOk r (λ n. D.vars n ≡ G.vars)
Sum-Ok-vars D G spot values (Ok n) laws are sound h = Sum-vars D G spot (λ q. get_or values q (D.bottom G.vars))
    (length values) n laws are.vars (sources G values are.one_each sound) h
Sum-Ok-vars D G spot values (Err e) laws are sound h = tt

pub put-same : {V : Type 0} (D : Relations V) (G : ControlGraph) (S : Stage V) (q : ℕ)
    → S ≡ put S q (record { value = value_at D G S q; changes = changes_at S q })
put-same D G S q = rw (set-get_or S.values q (D.bottom G.vars), set-get_or S.changes q 0) refl
