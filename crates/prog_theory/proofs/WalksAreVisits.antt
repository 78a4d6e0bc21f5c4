-- Walks are visits, and what closed families say is true at every visit.
use Rattle.std.proofs.Common.{◌≡◌, ℕ, Some, sym, subst, ◌↔◌, slice_get}
use Rattle.prog_theory.specs.States.{State}
use Rattle.prog_theory.specs.Statements.{Program}
use Rattle.prog_theory.specs.Visits.{VisitsStatement, VisitsEnd}
use Rattle.prog_theory.specs.Graph.{Statement, Exit, points}
use Rattle.prog_theory.specs.ControlGraphs.{ControlGraph, graph_of}
use Rattle.prog_theory.specs.PointVisits.{VisitsOf, Visits, IsOuterPoint, IsOuter}
use Rattle.prog_theory.specs.Walks.{Reaches, begins, goes}
use Rattle.prog_theory.specs.Families.{IsClosed}
use Rattle.prog_theory.proofs.Lengths.{reaches_walks, walks_reach}
use Rattle.prog_theory.proofs.Forward.{visits_reach}
use Rattle.prog_theory.proofs.Backward.{reach_visits}

module _ (P : Program) where
  pub visits_are_reached : (p : ℕ) (s : State) → Visits P p s → Reaches (graph_of P) p s
  visits_are_reached p s v = walks_reach P p s (visits_reach P p s v)

  -- A walk from point 0, at any state, comes to the point of a statement or to the exit with a state exactly where a
  -- run of the program visits the point with that state.
  pub walks_are_visits : (p : ℕ) (s : State) → IsOuter P p → Reaches (graph_of P) p s ↔ Visits P p s
  walks_are_visits p s o = (λ h. reach_visits P p s o (reaches_walks P h), λ h. visits_are_reached p s h)

  pub walks_are_visits_of_statements : (p k : ℕ) (s : State) → slice_get (points P) p ≡ Some (Statement k)
      → Reaches (graph_of P) p s ↔ VisitsStatement P k s
  walks_are_visits_of_statements p k s e =
      subst (λ o. Reaches (graph_of P) p s ↔ VisitsOf P o s) e (walks_are_visits p s (subst IsOuterPoint (sym e) tt))

  pub walks_are_visits_of_the_end : (p : ℕ) (s : State) → slice_get (points P) p ≡ Some Exit
      → Reaches (graph_of P) p s ↔ VisitsEnd P s
  walks_are_visits_of_the_end p s e =
      subst (λ o. Reaches (graph_of P) p s ↔ VisitsOf P o s) e (walks_are_visits p s (subst IsOuterPoint (sym e) tt))

-- a closed family has the state of every walk, to inner points too
pub closed_reaches : {G : ControlGraph} {F : ℕ → State → Type 0} → IsClosed G F → {p : ℕ} {s : State} → Reaches G p s
    → F p s
closed_reaches c (begins s wide) = c.everything s wide
closed_reaches c (goes e s t r d l) = c.closed e d s t (closed_reaches c r) l

-- a closed family has the state of every visit
pub closed_visits : (P : Program) (F : ℕ → State → Type 0) → IsClosed (graph_of P) F → (p : ℕ) (s : State)
    → Visits P p s → F p s
closed_visits P F c p s v = closed_reaches c (visits_are_reached P p s v)
