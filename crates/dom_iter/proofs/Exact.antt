-- An analysis that gives a family has no stop.
use Rattle.std.proofs.Common.{◌≡◌, ℕ}
use Rattle.prog_theory.specs.ControlGraphs.{ControlGraph}
use Rattle.dom_theory.specs.Relations.{Relations}
use Rattle.dom_theory.specs.Laws.{OneAnswer}
use Rattle.dom_theory.specs.Outcomes.{Outcome, Gives, Stops, Stop}
use Rattle.dom_theory.specs.Analysis.{End, Analysis}
use Rattle.dom_theory.proofs.Unique.{analysis_is_one}

module _ {V : Type 0} (D : Relations V) (G : ControlGraph) (delay narrow : ℕ) where
  pub ended_unstopped : OneAnswer D → (end : End V) → Analysis D G delay narrow (Gives end) → (stop : Stop)
      → Analysis D G delay narrow (Stops stop) → ⊥
  ended_unstopped one end gives stop stopped =
      let same : ◌≡◌ {A = Outcome (End V)} (Gives end) (Stops stop) = analysis_is_one D G delay narrow one (Gives end)
      (Stops stop) gives stopped in
      cc
