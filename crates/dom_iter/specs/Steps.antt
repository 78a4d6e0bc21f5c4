-- What the functions of the analysis do to the lists that hold a stage.
use Rattle.std.specs.Prelude.{◌≡◌, ◌+◌, ℕ, Bool, List, Option, Some, None, if◌then◌else◌, ◌*◌, ◌<◌, ◌≤◌, MatchBool, sum, length, Vec, Result, Ok, Err}
use Rattle.std.specs.declared.alloc.Global.{Global}
use Rattle.dom_iter.specs.declared.error.IterErr.{IterErr}
use Rattle.dom_iter.specs.declared.error.IterErr.TheVariants.{Limit, Range, NoMemory}
use Rattle.dom_theory.specs.Analysis.{Ascent, Narrows}
use Rattle.dom_theory.specs.Outcomes.{Outcome, Gives}
use Rattle.dom_theory.specs.Passes.{Held, Stage, changes_at, put, Rises, Settles, Pass}
use Rattle.dom_iter.specs.Fair.{AreValues, IsFair, most_changes}
use Rattle.dom_theory.specs.Relations.{Relations}
use Rattle.prog_theory.specs.ControlGraphs.{ControlGraph}

-- a stage, as its two lists
abbrev pub stage : {V : Type 0} → List V → List ℕ → Stage V
stage values changes = record { values = values; changes = changes }

-- a head that held x behind c changes, with its new value if it has one
abbrev pub held_after : {V : Type 0} → V → ℕ → Option V → Held V
held_after x c None = record { value = x; changes = c }
held_after x c (Some y) = record { value = y; changes = c + 1 }

-- the point takes what the step gives, and counts a change where it has changed
pub record Moves {V : Type 0} (Step : Outcome (Held V) → Type 0) (S T : Stage V) (q : ℕ) (changed : Bool) : Type 0 where
  pub held : Held V
  pub gives : Step (Gives held)
  pub is : T ≡ put S q held
  pub counts : held.changes ≡ (if changed then changes_at S q + 1 else changes_at S q)

-- a pass of the ascent, and whether it has changed a head
pub record Raises {V : Type 0} (D : Relations V) (G : ControlGraph) (delay pass : ℕ) (S T : Stage V)
    (changed : Bool) : Type 0 where
  pub gives : Pass (Rises D G delay pass) G S (Gives T)
  pub fair : IsFair D G delay T
  pub counts : MatchBool changed (sum S.changes < sum T.changes) (T.changes ≡ S.changes)

-- a pass of the narrowing
pub record Settled {V : Type 0} (D : Relations V) (G : ControlGraph) (pass : ℕ) (counts : List ℕ)
    (old new : List V) : Type 0 where
  pub gives : Pass (Settles D G pass) G (stage old counts) (Gives (stage new counts))
  pub are : AreValues D G new

-- this list, or want of memory
abbrev pub IsFirst : {A : Type 0} → List A → Result (Vec A Global) IterErr → Type 0
IsFirst xs (Ok v) = v.items ≡ xs
IsFirst xs (Err (Limit place)) = ⊥
IsFirst xs (Err (Range place)) = ⊥
IsFirst xs (Err NoMemory) = Unit {0}

-- the ascent from S ends in T
pub record Ascends {V : Type 0} (D : Relations V) (G : ControlGraph) (delay : ℕ) (S T : Stage V)
    (passes : ℕ) : Type 0 where
  pub gives : Ascent D G delay 1 S (Gives (record { stage = T; passes = passes }))
  pub are : AreValues D G T.values
  pub bound : passes ≤ length G.heads * most_changes D G delay + 1

-- passes of the narrowing
pub record Narrowed {V : Type 0} (D : Relations V) (G : ControlGraph) (narrow pass : ℕ) (counts : List ℕ)
    (old new : List V) : Type 0 where
  pub gives : Narrows D G narrow pass (stage old counts) (Gives (stage new counts))
  pub are : AreValues D G new
