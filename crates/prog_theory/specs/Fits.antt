-- Operations, edges and programs on so many variables.
use Rattle.std.specs.Prelude.{ℕ, ◌<◌, ◌≤◌, List, Contains}
use Rattle.prog_theory.specs.States.{Term}
use Rattle.prog_theory.specs.Conditions.{Cond}
use Rattle.prog_theory.specs.Statements.{Stmt, Block, Program}
use Rattle.prog_theory.specs.Each.{EachTerm, EachStmt, EachBlock, EachOp}
use Rattle.prog_theory.specs.Edges.{Op, Edge}

-- the term stands at a coordinate up to the number of variables
abbrev pub FitsTerm : ℕ → Term → Type 0
FitsTerm vars t = t.coord ≤ vars

abbrev pub IsVariable : ℕ → ℕ → Type 0
IsVariable vars x = (0 < x) × (x ≤ vars)

abbrev pub FitsOp : ℕ → Op → Type 0
FitsOp vars op = EachOp (IsVariable vars) (FitsTerm vars) op

abbrev pub FitEdges : ℕ → List Edge → Type 0
FitEdges vars edges = (e : Edge) → Contains edges e → FitsOp vars e.op

abbrev pub FitsCond : ℕ → Cond → Type 0
FitsCond vars c = EachTerm (FitsTerm vars) c

abbrev pub FitsStmt : ℕ → Stmt → Type 0
FitsStmt vars st = EachStmt (IsVariable vars) (FitsTerm vars) st

abbrev pub FitsBlock : ℕ → Block → Type 0
FitsBlock vars b = EachBlock (IsVariable vars) (FitsTerm vars) b

-- each statement names variables of the program alone
abbrev pub FitsProgram : Program → Type 0
FitsProgram P = FitsBlock P.vars P.body
