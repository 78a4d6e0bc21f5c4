-- What the run of a program begins with, and what is shown of it.
use Rattle.std.proofs.Common.{◌≡◌, ◌<◌, ◌≤◌, ◌^◌, ◌+◌, ℕ, ℤ, List, [], ◌∷◌, map, length, Option, Some, None, Contains, get_or, slice_get, refl, sym, ap, ◌∙◌, subst, arith}
use Rattle.std.proofs.lemmas.List.{length-map, get_or-map}
use Rattle.prog_theory.specs.States.{State}
use Rattle.prog_theory.specs.Statements.{Program}
use Rattle.prog_theory.specs.Named.{Named, nameless}
use Rattle.prog_theory.specs.Numbering.{numbered}
use Rattle.prog_theory.specs.Steps.{Stack}
use Rattle.prog_theory.specs.Graph.{Point}
use Rattle.prog_theory.specs.PointVisits.{VisitsOf, Visits}
use Rattle.prog_theory.specs.Runs.{Config}
use Rattle.prog_theory.specs.Chosen.{End, chosen_run}
use Rattle.std.proofs.lemmas.List.Elements.{Contains-get_or}
use Rattle.prog_theory.proofs.ChosenVisits.{stands_at, chosen_visits}
use Rattle.prog_tree.specs.Programs.{IsProgram}
use Rattle.prog_run.specs.Shown.{Shown, shown, top_number}
use Rattle.prog_run.specs.Ready.{AreReady}
use Rattle.prog_run.specs.Traces.{IsTrace, VisitsShown, AreVisits}
use Rattle.prog_run.proofs.Keeps.{numbered_ready}
use Rattle.prog_run.proofs.Causes.{chosen_trace}

-- the statements of a program can be computed
pub program_ready : (p : Named) → IsProgram p → AreReady (length p.names) (numbered 0 p.body)
program_ready p h =
    let few = h.within.statements in
    numbered_ready (length p.names) 0 p.body h.within.coordinates h.within.numbers (omega arith)

-- ---- visits

visits_shown : (P : Program) (stack : Stack) (s : State) → VisitsOf P (Some (stands_at stack)) s →
    VisitsShown P (top_number stack) s
visits_shown P [] s v = v
visits_shown P (top ∷ rest) s v = v

-- an element of a list that is mapped comes from one of the list
from_map : (f : Config → Shown) (cs : List Config) (x : Shown) → Contains (map f cs) x →
    (c : Config) × Contains cs c × (f c ≡ x)
from_map f [] x h = absurd (omega (arith, h.1))
from_map f (c ∷ cs) x h =
    let l : h.0 < length (c ∷ cs) = omega (arith, h.1, length-map (c ∷ cs) f) in
    (get_or (c ∷ cs) h.0 c, Contains-get_or (c ∷ cs) h.0 c l, sym (get_or-map f (c ∷ cs) h.0 c x l) ∙ h.2)

pub chosen_shown_visits : (P : Program) (s : State) (cs : List ℤ) (turns : ℕ) → length s ≡ P.vars →
    AreVisits P (map shown (chosen_run P s cs turns).configs)
chosen_shown_visits P s cs turns w x h =
    let c = from_map shown (chosen_run P s cs turns).configs x h in
    let v = chosen_visits P s cs turns w c.0 c.1 in
    let there : VisitsOf P (Some (stands_at c.0.stack)) c.0.state =
    subst (λ (o : Option Point). VisitsOf P o c.0.state) v.1 v.2 in
    subst (λ (y : Shown). VisitsShown P y.point y.state) c.2 (visits_shown P c.0.stack c.0.state there)

-- ---- what is shown of the run

module _ (P : Program) (s : State) (cs : List ℤ) (turns : ℕ) (lines : List Shown) (e : End)
    (is : (lines ≡ map shown (chosen_run P s cs turns).configs) × (e ≡ (chosen_run P s cs turns).ended)) where
  pub traced : IsTrace P s cs turns lines e
  traced =
      let h = chosen_trace P s cs turns in
      subst (λ (x : List Shown). IsTrace P s cs turns x e) (sym is.0)
      (subst (λ (x : End). IsTrace P s cs turns (map shown (chosen_run P s cs turns).configs) x) (sym is.1) h)

  pub visited : length s ≡ P.vars → AreVisits P lines
  visited w = subst (λ (x : List Shown). AreVisits P x) (sym is.0) (chosen_shown_visits P s cs turns w)
