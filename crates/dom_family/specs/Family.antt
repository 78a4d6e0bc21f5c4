-- The family of a program by a domain: what comes of the analysis of its control graph, a value for each point; and
-- what every family is.
use Rattle.std.specs.Prelude.{◌≡◌, ◌≤◌, ◌↔◌, ◌+◌, ◌*◌, ℕ, Bool, true, List, Contains, length, slice_index_or}
use Rattle.prog_theory.specs.States.{State}
use Rattle.prog_theory.specs.Statements.{Claim}
use Rattle.prog_theory.specs.Edges.{Edge}
use Rattle.prog_theory.specs.Named.{Named, nameless}
use Rattle.prog_theory.specs.Graph.{points, edges}
use Rattle.prog_theory.specs.Heads.{heads}
use Rattle.prog_theory.specs.ControlGraphs.{graph_of}
use Rattle.prog_theory.specs.PointVisits.{Visits}
use Rattle.cone_reports.specs.Asserts.{Assertion, asserts}
use Rattle.cone_reports.specs.Claims.{IsTrueOf}
use Rattle.dom_theory.specs.Relations.{Relations}
use Rattle.dom_theory.specs.Outcomes.{Outcome, Gives, Stops, Stop}
use Rattle.dom_theory.specs.Analysis.{End, Analysis}

-- The first `delay` changes of a head are joins, and `narrow` passes follow the ascent.
abbrev pub FamilyOf : {V : Type 0} → Relations V → ℕ → ℕ → Named → Outcome (End V) → Type 0
FamilyOf D delay narrow p = Analysis D (graph_of (nameless p)) delay narrow

-- the value at a point
abbrev pub value_in : {V : Type 0} → Relations V → Named → List V → ℕ → V
value_in D p values q = slice_index_or values q (D.bottom (length p.names))

-- the image of the value at the first point of the edge lies in the value at its last
pub record StaysAlong {V : Type 0} (D : Relations V) (value : ℕ → V) (e : Edge) : Type 0 where
  pub image : V
  pub applied : D.applied e.op (value e.from) image
  pub inside : D.within image (value e.to)

-- the verdict says whether the value at the assert's point proves its claim
abbrev pub IsJudgedBy : {V : Type 0} → (Claim → V → Type 0) → (ℕ → V) → Assertion → Bool → Type 0
IsJudgedBy proven value a verdict = (verdict ≡ true) ↔ proven a.claim (value a.point)

-- the claim is true, in ordinary numbers, of each state with which a run visits its statement
abbrev pub IsTrueAtVisits : Named → Assertion → Type 0
IsTrueAtVisits p a = (s : State) → Visits (nameless p) a.point s → IsTrueOf a.claim s

-- These values, after so many passes, are the family. What follows from this stands beside it.
pub record IsFamily {V : Type 0} (D : Relations V) (proven : Claim → V → Type 0) (delay narrow : ℕ) (p : Named)
    (end : End V) : Type 0 where
  pub gives : FamilyOf D delay narrow p (Gives end)
  pub unstopped : (stop : Stop) → FamilyOf D delay narrow p (Stops stop) → ⊥
  pub passes : end.passes ≤ length (heads (nameless p)) * (delay + D.max_width (length p.names) + 1) + 1
  pub one_each : length end.values ≡ length (points (nameless p))
  -- it is inductive: everything at point 0, and along each edge the image lies in the value of its target
  pub whole : D.within (D.top (length p.names)) (value_in D p end.values 0)
  pub stays : (e : Edge) → Contains (edges (nameless p)) e → StaysAlong D (value_in D p end.values) e
  -- so it is true at each visit of each run
  pub visits : (q : ℕ) (s : State) → Visits (nameless p) q s → D.has (value_in D p end.values q) s
  pub claims : (a : Assertion) → Contains (asserts (nameless p)) a → proven a.claim (value_in D p end.values a.point) →
      IsTrueAtVisits p a
