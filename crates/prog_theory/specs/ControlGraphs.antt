-- Control graphs, and the one of a program.
use Rattle.std.specs.Prelude.{◌==◌, Bool, ℕ, List}
use Rattle.std.specs.List.{list_any}
use Rattle.prog_theory.specs.Statements.{Program}
use Rattle.prog_theory.specs.Edges.{Edge}
use Rattle.prog_theory.specs.Graph.{Point, points, edges}
use Rattle.prog_theory.specs.Heads.{heads}

-- the points, the edges in order, and the numbers of the points at which loops begin; so many variables have a number
-- in each state
pub record ControlGraph : Type 0 where
  pub vars : ℕ
  pub points : List Point
  pub edges : List Edge
  pub heads : List ℕ

abbrev pub graph_of : Program → ControlGraph
graph_of P = record { vars = P.vars; points = points P; edges = edges P; heads = heads P }

-- whether the point is a head
abbrev pub is_head : ControlGraph → ℕ → Bool
is_head G q = list_any (λ h. h == q) G.heads
