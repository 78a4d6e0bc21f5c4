-- What stays true of the stages of an ascent.
use Rattle.std.specs.Prelude.{◌≡◌, ◌+◌, ◌<◌, ◌≤◌, ℕ, false, List, length, slice_index_or}
use Rattle.prog_theory.specs.ControlGraphs.{ControlGraph, is_head}
use Rattle.dom_theory.specs.Relations.{Relations}
use Rattle.dom_theory.specs.Passes.{Stage, Held, value_at, changes_at}

-- how often one head changes at most
abbrev pub most_changes : {V : Type 0} → Relations V → ControlGraph → ℕ → ℕ
most_changes D G delay = delay + D.max_width G.vars + 1

-- a value for each point
pub record AreValues {V : Type 0} (D : Relations V) (G : ControlGraph) (values : List V) : Type 0 where
  pub one_each : length values ≡ length G.points
  pub vars : (q : ℕ) → q < length values → D.vars (slice_index_or values q (D.bottom G.vars)) ≡ G.vars

-- At a head the changes and the width stay in the bound, and bottom has never changed. No other point changes.
pub record IsFairAt {V : Type 0} (D : Relations V) (G : ControlGraph) (delay q : ℕ) (held : Held V) : Type 0 where
  pub vars : D.vars held.value ≡ G.vars
  pub bound : held.changes + D.width held.value ≤ most_changes D G delay
  pub bottom : held.value ≡ D.bottom G.vars → held.changes ≡ 0
  pub others : is_head G q ≡ false → held.changes ≡ 0

pub record IsFair {V : Type 0} (D : Relations V) (G : ControlGraph) (delay : ℕ) (S : Stage V) : Type 0 where
  pub values : length S.values ≡ length G.points
  pub counts : length S.changes ≡ length G.points
  pub each : (q : ℕ) → q < length G.points
      → IsFairAt D G delay q (record { value = value_at D G S q; changes = changes_at S q })
