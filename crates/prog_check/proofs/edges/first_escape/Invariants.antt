use Rattle.std.proofs.Common.{◌<◌, ℕ, get_or}
use Rattle.prog_graph.specs.declared.parts.Edge.{Edge}
use Rattle.prog_graph.specs.Views.{edge_of}
use Rattle.cone_reports.specs.Inductive.{StaysAlong}
use Rattle.report_value.specs.Views.{said}
use Rattle.prog_check.proofs.edges.first_escape.Given as goal

abbrev pub invariant-loop-k : goal.invariant-loop-k
invariant-loop-k g l = (j : ℕ) (d : Edge) → j < l.k →
    StaysAlong g.S.Scalar.ring g.S.Scalar.numbering g.S.Scalar.REVERSED (said l.report) (edge_of (get_or l.edges j d))
