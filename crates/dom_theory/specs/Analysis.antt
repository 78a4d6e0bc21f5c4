-- The analysis of a control graph by a domain: an ascent to the first pass that changes no head, and then the
-- narrowing.
use Rattle.std.specs.Prelude.{◌≡◌, ◌+◌, ℕ, zero, suc, List, length, replicate}
use Rattle.prog_theory.specs.ControlGraphs.{ControlGraph}
use Rattle.dom_theory.specs.Relations.{Relations}
use Rattle.dom_theory.specs.Outcomes.{Outcome, Gives, Stops, Stop, Is, Then}
use Rattle.dom_theory.specs.Passes.{Stage, Rises, Settles, Pass}

-- nothing at each point, and no head has changed
abbrev pub at_first : {V : Type 0} → Relations V → ControlGraph → Stage V
at_first D G = record {
  values = replicate (length G.points) (D.bottom G.vars);
  changes = replicate
      (length G.points) 0;
}

-- what stands at each point behind the ascent, and the number of its last pass
pub record Risen (V : Type 0) : Type 0 where
  pub stage : Stage V
  pub passes : ℕ

-- The ascent from this pass on. It ends at the first pass that changes no head.
pub data Ascent {V : Type 0} (D : Relations V) (G : ControlGraph) (delay : ℕ) : ℕ → Stage V → Outcome (Risen V)
    → Type 0 where
  ends : (pass : ℕ) (S T : Stage V) (r : Outcome (Risen V)) → Pass (Rises D G delay pass) G S (Gives T)
      → T.changes ≡ S.changes →
      r ≡ Gives (record { stage = T; passes = pass }) → Ascent D G delay pass S r
  goes_on : (pass : ℕ) (S T : Stage V) (r : Outcome (Risen V)) → Pass (Rises D G delay pass) G S (Gives T)
      → (T.changes ≡ S.changes → ⊥) →
      Ascent D G delay (pass + 1) T r → Ascent D G delay pass S r
  stops : (pass : ℕ) (S : Stage V) (s : Stop) (r : Outcome (Risen V)) → Pass (Rises D G delay pass) G S (Stops s) →
      r ≡ Stops s → Ascent D G delay pass S r

-- n passes of the narrowing, from this pass on
abbrev pub Narrows : {V : Type 0} → Relations V → ControlGraph → ℕ → ℕ → Stage V → Outcome (Stage V) → Type 0
Narrows D G zero pass S r = Is S r
Narrows D G (suc n) pass S r = Then (Pass (Settles D G pass) G S) (Narrows D G n (pass + 1)) r

-- the value of each point, and the number of passes of the ascent
pub record End (V : Type 0) : Type 0 where
  pub values : List V
  pub passes : ℕ

-- what comes of the analysis
abbrev pub Analysis : {V : Type 0} → Relations V → ControlGraph → ℕ → ℕ → Outcome (End V) → Type 0
Analysis D G delay narrow = Then (Ascent D G delay 1 (at_first D G))
    (λ risen. Then (Narrows D G narrow (risen.passes + 1) risen.stage)
    (λ S. Is (record { values = S.values; passes = risen.passes })))
