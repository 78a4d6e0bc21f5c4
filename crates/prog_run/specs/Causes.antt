-- Why a run ends, in the order in which it is decided.
use Rattle.std.specs.Prelude.{◌≡◌, ◌<◌, ℕ, ℤ, false, List, [], ◌∷◌, Some, None}
use Rattle.prog_theory.specs.States.{State}
use Rattle.prog_theory.specs.Statements.{Stmt, Set, Havoc, Assume, Assert, If, While, Skip}
use Rattle.prog_theory.specs.Steps.{Stack}
use Rattle.prog_theory.specs.Looks.{look}
use Rattle.prog_theory.specs.Runs.{Config}
use Rattle.prog_theory.specs.Chosen.{End, Finished, TurnsSpent, OutOfChoices, AssumeFailed}

-- the step of the statement needs a choice, and none is left
abbrev pub NeedsChoice : Stmt → State → List ℤ → Type 0
NeedsChoice (Havoc x) s cs = cs ≡ []
NeedsChoice (Assume c) s cs = look c s cs ≡ None
NeedsChoice (If c a b) s cs = look c s cs ≡ None
NeedsChoice (While c a) s cs = look c s cs ≡ None
NeedsChoice (Set x t) s cs = ⊥
NeedsChoice (Assert c) s cs = ⊥
NeedsChoice Skip s cs = ⊥

-- the statement is an assume whose condition is seen to be false
abbrev pub FailsAssume : Stmt → State → List ℤ → Type 0
FailsAssume (Assume c) s cs = (left : List ℤ) × (look c s cs ≡ Some (record { truth = false; left = left }))
FailsAssume (Set x t) s cs = ⊥
FailsAssume (Havoc x) s cs = ⊥
FailsAssume (Assert c) s cs = ⊥
FailsAssume (If c a b) s cs = ⊥
FailsAssume (While c a) s cs = ⊥
FailsAssume Skip s cs = ⊥

-- with so many steps still to take, a statement on top and these choices
abbrev pub IsTopCause : End → ℕ → Stmt → State → List ℤ → Type 0
IsTopCause Finished turns st s cs = ⊥
IsTopCause TurnsSpent turns st s cs = turns ≡ 0
IsTopCause OutOfChoices turns st s cs = (0 < turns) × NeedsChoice st s cs
IsTopCause AssumeFailed turns st s cs = (0 < turns) × FailsAssume st s cs

-- the same of a stack: a run is finished exactly where it is empty
abbrev pub IsCause : End → ℕ → Stack → State → List ℤ → Type 0
IsCause e turns [] s cs = e ≡ Finished
IsCause e turns (top ∷ rest) s cs = IsTopCause e turns top.stmt s cs
