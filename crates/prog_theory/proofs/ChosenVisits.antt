-- Each configuration of the chosen run is visited.
use Rattle.std.proofs.Common.{◌≡◌, ℕ, ℤ, List, [], ◌∷◌, Option, Some, sym, subst, ⊎_elim, length, Contains, slice_get}
use Rattle.prog_theory.specs.States.{State}
use Rattle.prog_theory.specs.Statements.{Program}
use Rattle.prog_theory.specs.Numbering.{numbered}
use Rattle.prog_theory.specs.Steps.{Stack, Arrives, begins, goes_on}
use Rattle.prog_theory.specs.Graph.{Point, Statement, Exit, points}
use Rattle.prog_theory.specs.PointVisits.{VisitsOf, Visits}
use Rattle.prog_theory.specs.Runs.{Config, AreSteps}
use Rattle.prog_theory.specs.Chosen.{chosen_run}
use Rattle.prog_theory.proofs.Elements.{Contains-cases, Contains-none}
use Rattle.prog_theory.proofs.Forward.{arrives_stands}
use Rattle.prog_theory.proofs.Backward.{top_point, end_point}
use Rattle.prog_theory.proofs.ChosenSteps.{run_head, chosen_steps}

-- the point of a configuration: that of the statement on top, or the exit
abbrev pub stands_at : Stack → Point
stands_at [] = Exit
stands_at (top ∷ rest) = Statement top.number

module _ (P : Program) where
  visits_at : (p : ℕ) (x : Point) (s : State) → slice_get (points P) p ≡ Some x → VisitsOf P (Some x) s → Visits P p s
  visits_at p x s e v = subst (λ (o : Option Point). VisitsOf P o s) (sym e) v

  -- a configuration that a run comes to is visited at its point
  pub arrives_visits : (stack : Stack) (s : State) → Arrives P stack s
      → (p : ℕ) × (slice_get (points P) p ≡ Some (stands_at stack)) × Visits P p s
  arrives_visits [] s a =
      let h = arrives_stands P [] s a in
      let e = end_point P h.at h.fits in
      (h.at, e, visits_at h.at Exit s e a)
  arrives_visits (top ∷ rest) s a =
      let h = arrives_stands P (top ∷ rest) s a in
      let e = top_point P h.at top rest h.fits in
      (h.at, e, visits_at h.at (Statement top.number) s e (top.stmt, rest, a))

  -- where the first of a list of steps is arrived at, each is
  all_arrive : (cs : List Config) (c : Config) → AreSteps (c ∷ cs) → Arrives P c.stack c.state → (d : Config)
      → Contains (c ∷ cs) d → Arrives P d.stack d.state
  all_arrive [] c h a d i =
      ⊎_elim (λ e. subst (λ (x : Config). Arrives P x.stack x.state) (sym e) a) (λ j. absurd (Contains-none d j))
      (Contains-cases c [] d i)
  all_arrive (x ∷ cs) c h a d i =
      ⊎_elim
      (λ e. subst (λ (x : Config). Arrives P x.stack x.state) (sym e) a)
      (λ j. all_arrive cs x h.1 (goes_on c.stack c.state x.stack x.state a h.0) d j)
      (Contains-cases c (x ∷ cs) d i)

  -- each configuration of the chosen run is visited at its point
  pub chosen_visits : (s : State) (cs : List ℤ) (turns : ℕ) → length s ≡ P.vars → (d : Config)
      → Contains (chosen_run P s cs turns).configs d
      → (p : ℕ) × (slice_get (points P) p ≡ Some (stands_at d.stack)) × Visits P p d.state
  chosen_visits s cs turns w d i =
      let first : Config = record { stack = numbered 0 P.body; state = s } in
      let h = run_head turns (numbered 0 P.body) s cs in
      let steps = subst (λ (x : List Config). AreSteps x) h.1 (chosen_steps P s cs turns) in
      let there = subst (λ (x : List Config). Contains x d) h.1 i in
      arrives_visits d.stack d.state (all_arrive h.0 first steps (begins s w) d there)
