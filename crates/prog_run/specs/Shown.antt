-- What a trace shows of a configuration: the number of the statement on top, or nothing where the stack is empty, and
-- the state.
use Rattle.std.specs.Prelude.{ℕ, [], ◌∷◌, Option, Some, None}
use Rattle.prog_theory.specs.States.{State}
use Rattle.prog_theory.specs.Steps.{Stack}
use Rattle.prog_theory.specs.Runs.{Config}

pub record Shown : Type 0 where
  pub point : Option ℕ
  pub state : State

abbrev pub top_number : Stack → Option ℕ
top_number [] = None
top_number (top ∷ rest) = Some top.number

abbrev pub shown : Config → Shown
shown c = record { point = top_number c.stack; state = c.state }

-- a stack and a state
abbrev pub config : Stack → State → Config
config stack s = record { stack = stack; state = s }
