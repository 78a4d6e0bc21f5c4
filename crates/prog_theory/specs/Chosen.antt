-- The chosen run: the run in which choices decide what a step leaves open. A `Havoc` takes one choice as its value, and
-- a condition is looked at. The end is decided at each configuration, in the order of the cases.
use Rattle.std.specs.Prelude.{ℕ, zero, suc, ◌+◌, ℤ, Bool, true, false, List, [], ◌∷◌, ◌++◌, Option, Some, None}
use Rattle.prog_theory.specs.States.{State, value, changed}
use Rattle.prog_theory.specs.Statements.{Stmt, Set, Havoc, Assume, Assert, If, While, Skip, Program}
use Rattle.prog_theory.specs.Numbering.{counts, numbered}
use Rattle.prog_theory.specs.Steps.{Stack}
use Rattle.prog_theory.specs.Looks.{Look, look}
use Rattle.prog_theory.specs.Runs.{Config}

pub data End : Type 0 where
  Finished : End
  TurnsSpent : End
  OutOfChoices : End
  AssumeFailed : End

-- what the choices make of one step: the next configuration and the choices that are left, or the end
pub data Picked : Type 0 where
  Ends : End → Picked
  Goes : Config → List ℤ → Picked

abbrev pub pick_truth : Bool → List ℤ → Config → Config → Picked
pick_truth true left c d = Goes c left
pick_truth false left c d = Goes d left

abbrev pub pick_branch : Option Look → Config → Config → Picked
pick_branch None c d = Ends OutOfChoices
pick_branch (Some l) c d = pick_truth l.truth l.left c d

abbrev pub pick_true : Bool → List ℤ → Config → Picked
pick_true true left c = Goes c left
pick_true false left c = Ends AssumeFailed

abbrev pub pick_assume : Option Look → Config → Picked
pick_assume None c = Ends OutOfChoices
pick_assume (Some l) c = pick_true l.truth l.left c

abbrev pub pick_value : ℕ → List ℤ → State → Stack → Picked
pick_value x [] s rest = Ends OutOfChoices
pick_value x (c ∷ cs) s rest = Goes (record { stack = rest; state = changed s x c }) cs

abbrev pub picked : ℕ → Stmt → Stack → State → List ℤ → Picked
picked k (Set x t) rest s cs = Goes (record { stack = rest; state = changed s x (value t s) }) cs
picked k (Havoc x) rest s cs = pick_value x cs s rest
picked k (Assume c) rest s cs = pick_assume (look c s cs) (record { stack = rest; state = s })
picked k (Assert a) rest s cs = Goes (record { stack = rest; state = s }) cs
picked k (If c a b) rest s cs =
    pick_branch (look c s cs)
    (record { stack = numbered (k + 1) a ++ rest; state = s })
    (record { stack = numbered (k + 1 + counts a) b ++ rest; state = s })
picked k (While c a) rest s cs =
    pick_branch (look c s cs)
    (record { stack = numbered (k + 1) a ++ record { number = k; stmt = While c a } ∷ rest; state = s })
    (record { stack = rest; state = s })
picked k Skip rest s cs = Goes (record { stack = rest; state = s }) cs

-- the configurations of a run and its end
pub record Run : Type 0 where
  pub configs : List Config
  pub ended : End

abbrev pub run_more : Config → Run → Run
run_more c r = record { configs = c ∷ r.configs; ended = r.ended }

abbrev pub run_ends : Config → End → Run
run_ends c e = record { configs = c ∷ []; ended = e }

abbrev pub run_on : Picked → Config → (Config → List ℤ → Run) → Run
run_on (Ends e) c more = run_ends c e
run_on (Goes d left) c more = run_more c (more d left)

-- the run from a stack and a state, with at most so many steps
abbrev pub run_from : ℕ → Stack → State → List ℤ → Run
run_from turns [] s cs = run_ends (record { stack = []; state = s }) Finished
run_from zero (top ∷ rest) s cs = run_ends (record { stack = top ∷ rest; state = s }) TurnsSpent
run_from (suc turns) (top ∷ rest) s cs =
    run_on (picked top.number top.stmt rest s cs) (record { stack = top ∷ rest; state = s })
    (λ c left. run_from turns c.stack c.state left)

abbrev pub chosen_run : Program → State → List ℤ → ℕ → Run
chosen_run P s cs turns = run_from turns (numbered 0 P.body) s cs
