-- Values: the empty zone, or a matrix that is the closed one of its own zone.
use Rattle.std.specs.Prelude.{◌↔◌, ℕ, Option, Some, None}
use Rattle.prog_theory.specs.States.{State}
use Rattle.prog_theory.specs.Edges.{Op}
use Rattle.prog_theory.specs.Walks.{Leads}
use Rattle.zone_theory.specs.Matrices.{Matrix, InZone}
use Rattle.zone_theory.specs.Closed.{IsClosed}

-- the states of a zone; none is the empty one
abbrev pub Has : ℕ → Option Matrix → State → Type 0
Has d None s = ⊥
Has d (Some m) s = InZone d m s

abbrev pub IsValue : ℕ → Option Matrix → Type 0
IsValue d None = Unit {0}
IsValue d (Some m) = IsClosed d (InZone d m) m

-- the second zone has exactly the states to which the operation leads from states of the first
pub record IsImage (d : ℕ) (op : Op) (x y : Option Matrix) : Type 0 where
  pub states : (t : State) → Has d y t ↔ ((s : State) × Has d x s × Leads op s t)

-- the third zone is the least that has both
pub record IsJoin (d : ℕ) (x y z : Option Matrix) : Type 0 where
  pub left : (s : State) → Has d x s → Has d z s
  pub right : (s : State) → Has d y s → Has d z s
  pub least : (w : Option Matrix) → ((s : State) → Has d x s → Has d w s) → ((s : State) → Has d y s → Has d w s)
      → (s : State) → Has d z s → Has d w s
