-- What a trace is: configurations of a run, shown, and why it ends.
use Rattle.std.specs.Prelude.{◌≡◌, ◌≤◌, ◌-◌, ℕ, ℤ, List, [], ◌∷◌, ◌++◌, map, length, Contains, Option, Some, None}
use Rattle.prog_theory.specs.States.{State}
use Rattle.prog_theory.specs.Statements.{Program}
use Rattle.prog_theory.specs.Named.{Named, nameless}
use Rattle.prog_theory.specs.Numbering.{numbered}
use Rattle.prog_theory.specs.Steps.{Stack}
use Rattle.prog_theory.specs.Visits.{VisitsStatement, VisitsEnd}
use Rattle.prog_theory.specs.Runs.{Config, AreSteps}
use Rattle.prog_theory.specs.Chosen.{End, Finished, TurnsSpent, Picked, Ends, picked, Run, chosen_run}
use Rattle.prog_run.specs.Shown.{Shown, shown, config}
use Rattle.prog_run.specs.Causes.{IsCause}

-- the chosen run of a program with names
abbrev pub run_of : Named → State → List ℤ → ℕ → Run
run_of p start choices turns = chosen_run (nameless p) start choices turns

-- the step of a stack, by choices: an end where it is empty
abbrev pub pick : Stack → State → List ℤ → Picked
pick [] s cs = Ends Finished
pick (top ∷ rest) s cs = picked top.number top.stmt rest s cs

-- the end of a run with no turn left
abbrev pub end_without_turns : Stack → End
end_without_turns [] = Finished
end_without_turns (top ∷ rest) = TurnsSpent

-- configurations of which the first has the whole program on the stack and the state of the start, and each other one
-- follows the last by a step
pub record IsRun (P : Program) (start : State) (cs : List Config) : Type 0 where
  pub rest : List Config
  pub begins : cs ≡ config (numbered 0 P.body) start ∷ rest
  pub steps : AreSteps cs

-- what is shown is a run; with so many steps at most, and some of the choices left, it ends at its last configuration
pub record IsTrace (P : Program) (start : State) (given : List ℤ) (most : ℕ) (lines : List Shown)
    (ended : End) : Type 0 where
  pub before : List Config
  pub last : Config
  pub taken : List ℤ
  pub left : List ℤ
  pub shows : lines ≡ map shown (before ++ last ∷ [])
  pub run : IsRun P start (before ++ last ∷ [])
  pub choices : given ≡ taken ++ left
  pub turns : length before ≤ most
  pub cause : IsCause ended (most - length before) last.stack last.state left

-- what is shown is visited
abbrev pub VisitsShown : Program → Option ℕ → State → Type 0
VisitsShown P None s = VisitsEnd P s
VisitsShown P (Some k) s = VisitsStatement P k s

abbrev pub AreVisits : Program → List Shown → Type 0
AreVisits P lines = (c : Shown) → Contains lines c → VisitsShown P c.point c.state
