-- Visits of the points of the control graph. The point of a statement is visited where the statement is, and the exit
-- where the end of the program is. An inner point has no visit.
use Rattle.std.specs.Prelude.{ℕ, Option, Some, None, slice_get}
use Rattle.prog_theory.specs.States.{State}
use Rattle.prog_theory.specs.Statements.{Program}
use Rattle.prog_theory.specs.Visits.{VisitsStatement, VisitsEnd}
use Rattle.prog_theory.specs.Graph.{Point, Statement, Inner, Exit, points}

abbrev pub VisitsOf : Program → Option Point → State → Type 0
VisitsOf P None s = ⊥
VisitsOf P (Some (Statement k)) s = VisitsStatement P k s
VisitsOf P (Some Inner) s = ⊥
VisitsOf P (Some Exit) s = VisitsEnd P s

-- a run of the program comes to the point p with the state s
abbrev pub Visits : Program → ℕ → State → Type 0
Visits P p s = VisitsOf P (slice_get (points P) p) s

-- an outer point: that of a statement, or the exit
abbrev pub IsOuterPoint : Option Point → Type 0
IsOuterPoint None = ⊥
IsOuterPoint (Some (Statement k)) = Unit {0}
IsOuterPoint (Some Inner) = ⊥
IsOuterPoint (Some Exit) = Unit {0}

abbrev pub IsOuter : Program → ℕ → Type 0
IsOuter P p = IsOuterPoint (slice_get (points P) p)
