-- The steps of a program. A configuration is a stack of numbered statements and a state.
use Rattle.std.specs.Prelude.{◌≡◌, ◌⊎◌, ℕ, ◌+◌, ℤ, true, false, List, [], ◌∷◌, ◌++◌, length}
use Rattle.prog_theory.specs.States.{State, value, changed}
use Rattle.prog_theory.specs.Conditions.{CanBe}
use Rattle.prog_theory.specs.Statements.{Stmt, Set, Havoc, Assume, Assert, If, While, Skip, Program}
use Rattle.prog_theory.specs.Numbering.{counts, Numbered, numbered}

abbrev pub Stack : Type 0
Stack = List Numbered

-- a step of the statement with the number k, with `rest` below it: from the state s to a stack and the state s'
abbrev pub StepOf : ℕ → Stmt → Stack → State → Stack → State → Type 0
StepOf k (Set x t) rest s stack s' = (stack ≡ rest) × (s' ≡ changed s x (value t s))
StepOf k (Havoc x) rest s stack s' = (v : ℤ) × (stack ≡ rest) × (s' ≡ changed s x v)
StepOf k (Assume c) rest s stack s' = CanBe c s true × (stack ≡ rest) × (s' ≡ s)
StepOf k (Assert c) rest s stack s' = (stack ≡ rest) × (s' ≡ s)
StepOf k (If c a b) rest s stack s' =
    (CanBe c s true × (stack ≡ numbered (k + 1) a ++ rest) × (s' ≡ s))
    ⊎ (CanBe c s false × (stack ≡ numbered (k + 1 + counts a) b ++ rest) × (s' ≡ s))
StepOf k (While c a) rest s stack s' =
    (CanBe c s true × (stack ≡ numbered (k + 1) a ++ record { number = k; stmt = While c a } ∷ rest) × (s' ≡ s))
    ⊎ (CanBe c s false × (stack ≡ rest) × (s' ≡ s))
StepOf k Skip rest s stack s' = (stack ≡ rest) × (s' ≡ s)

-- one step, of the statement on top
abbrev pub Step : Stack → State → Stack → State → Type 0
Step [] s stack s' = ⊥
Step (top ∷ rest) s stack s' = StepOf top.number top.stmt rest s stack s'

-- a list of steps from the whole program, at some state, leads to this configuration
pub data Arrives (P : Program) : Stack → State → Type 0 where
  begins : (s : State) → length s ≡ P.vars → Arrives P (numbered 0 P.body) s
  goes_on : (before : Stack) (s : State) (after : Stack) (s' : State)
      → Arrives P before s → Step before s after s' → Arrives P after s'
