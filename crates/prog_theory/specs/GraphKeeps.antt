-- What a control graph keeps.
use Rattle.std.specs.Prelude.{◌≡◌, ◌⊎◌, ◌+◌, ◌^◌, ◌<◌, ◌≤◌, true, List, All, Contains, length}
use Rattle.prog_theory.specs.Edges.{Edge}
use Rattle.prog_theory.specs.Each.{EachOp}
use Rattle.prog_theory.specs.Fits.{FitsOp}
use Rattle.prog_theory.specs.Within.{IsNumberWithin}
use Rattle.prog_theory.specs.ControlGraphs.{ControlGraph, is_head}

-- No edge enters a loop but at its head: where an edge goes back from b to h, none goes from below h to a point
-- behind h up to b.
abbrev pub EntersAtHeads : List Edge → Type 0
EntersAtHeads edges =
    (e f : Edge) → Contains edges e → Contains edges f → e.to ≤ e.from → f.from < e.to → e.to < f.to → f.to ≤ e.from → ⊥

pub record IsControlGraph (G : ControlGraph) : Type 0 where
  pub entry : 0 < length G.points
  pub points : length G.points ≤ 65536
  pub edges : length G.edges ≤ 65536
  pub few : length G.heads ≤ 400
  -- edges join points, have operations on the variables with numbers up to this size, and go up but to heads
  pub joins : All (λ e. (e.from < length G.points) × (e.to < length G.points)) G.edges
  pub fits : All (λ e. FitsOp G.vars e.op) G.edges
  pub numbers : All (λ e. EachOp (λ x. Unit {0}) (IsNumberWithin (2 ^ 31 + 1)) e.op) G.edges
  pub ascends : All (λ e. (is_head G e.to ≡ true) ⊎ (e.from < e.to)) G.edges
  pub enters : EntersAtHeads G.edges
  pub heads : All (λ h. h < length G.points) G.heads
