-- What a report keeps, from what its making asks.
use Rattle.std.proofs.Common.{◌≡◌, ◌≤◌, ◌+◌, ℕ, Bool, List, length, All, ◌∙◌}
use Rattle.std.proofs.lemmas.List.Elements.{All-map}
use Rattle.std.proofs.lemmas.List.{length-map}
use Rattle.trop_theory.specs.Semiring.{Semiring}
use Rattle.trop_theory.specs.Numbers.{Numbering}
use Rattle.prog_theory.specs.Named.{Named, nameless}
use Rattle.prog_theory.specs.Graph.{points}
use Rattle.prog_theory.specs.ControlGraphs.{ControlGraph, graph_of}
use Rattle.prog_tree.specs.Programs.{IsProgram}
use Rattle.report_texts.specs.Limits.{most_delay, most_narrow, most_passes}
use Rattle.report_texts.specs.Reports.{assert_numbers}
use Rattle.report_value.specs.declared.parts.PointPart.{PointPart}
use Rattle.report_value.specs.Views.{part_of}
use Rattle.report_value.specs.Kept.{IsPartKept, IsPointKept, IsSound}

pub sound : {V Store : Type 0} (R : Semiring V) (N : Numbering V) (delay narrow passes : ℕ) (program : Named)
    (graph : ControlGraph) (parts : List (PointPart V Store)) (verdicts : List Bool) → delay ≤ most_delay →
    narrow ≤ most_narrow → passes ≤ most_passes → IsProgram program → graph ≡ graph_of (nameless program) →
    All (IsPointKept R N (length program.names + 1)) parts → length parts ≡ length (points (nameless program)) →
    length verdicts ≡ length (assert_numbers program) → IsSound R N delay narrow passes program graph parts verdicts
sound R N delay narrow passes program graph parts verdicts d k n keeps same each points_are asserts_are = record {
  report = record {
    delay = d;
    narrow = k;
    passes = n;
    program = keeps;
    parts =
        All-map (IsPartKept R N (length program.names + 1)) part_of parts (λ i x lt. IsPointKept.part (each i x lt));
    points_are = length-map parts part_of ∙ points_are;
    asserts_are = asserts_are;
  };
  each = each;
  graph_is = same;
}
