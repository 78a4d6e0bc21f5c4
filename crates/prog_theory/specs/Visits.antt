-- Visits: a run of the program, begun at any state, comes to a statement or to the end of the program with a state.
use Rattle.std.specs.Prelude.{ℕ, [], ◌∷◌}
use Rattle.prog_theory.specs.States.{State}
use Rattle.prog_theory.specs.Statements.{Stmt, Program}
use Rattle.prog_theory.specs.Steps.{Stack, Arrives}

-- the statement with the number k is the next to take a step
abbrev pub VisitsStatement : Program → ℕ → State → Type 0
VisitsStatement P k s = (st : Stmt) × (rest : Stack) × Arrives P (record { number = k; stmt = st } ∷ rest) s

-- no statement is left
abbrev pub VisitsEnd : Program → State → Type 0
VisitsEnd P s = Arrives P [] s
