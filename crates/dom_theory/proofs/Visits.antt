-- The state of each visit of a program is one of the value that the analysis of its graph gives at the point.
use Rattle.std.proofs.Common.{ℕ, get_or}
use Rattle.prog_theory.specs.States.{State}
use Rattle.prog_theory.specs.Named.{Named, nameless}
use Rattle.prog_theory.specs.Limits.{program_limits}
use Rattle.prog_theory.specs.Within.{IsWithin}
use Rattle.prog_theory.specs.ControlGraphs.{graph_of}
use Rattle.prog_theory.specs.PointVisits.{Visits}
use Rattle.prog_theory.proofs.ControlGraphs.{graph_of_program}
use Rattle.prog_theory.proofs.WalksAreVisits.{visits_are_reached}
use Rattle.dom_theory.specs.Relations.{Relations}
use Rattle.dom_theory.specs.Laws.{StateLaws}
use Rattle.dom_theory.specs.Outcomes.{Gives}
use Rattle.dom_theory.specs.Analysis.{End, Analysis}
use Rattle.dom_theory.proofs.Walks.{analysis_covers_walks}

pub analysis_covers_visits : {V : Type 0} (D : Relations V) (P : Named) → IsWithin program_limits P → StateLaws D
    → (delay narrow : ℕ) (E : End V) → Analysis D (graph_of (nameless P)) delay narrow (Gives E) →
    (p : ℕ) (s : State) → Visits (nameless P) p s → D.has (get_or E.values p (D.bottom (nameless P).vars)) s
analysis_covers_visits D P kept laws delay narrow E h p s v =
    analysis_covers_walks D (graph_of (nameless P)) delay narrow E laws (graph_of_program P kept) h p s
    (visits_are_reached (nameless P) p s v)
