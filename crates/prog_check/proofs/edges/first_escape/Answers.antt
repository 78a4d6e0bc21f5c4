use Rattle.std.proofs.Common.{◌≡◌, map, ap, ◌∙◌, arith}
use Rattle.prog_theory.specs.Named.{nameless}
use Rattle.prog_theory.specs.Graph.{edges}
use Rattle.prog_theory.specs.ControlGraphs.{ControlGraph}
use Rattle.prog_graph.specs.Views.{edge_of}
use Rattle.cone_reports.specs.Inductive.{StaysAlong}
use Rattle.report_value.specs.Views.{said}
use Rattle.prog_check.proofs.Parts.{escapes_from}
use Rattle.prog_check.proofs.Steps.{mapped_in, mapped_all}
use Rattle.prog_check.proofs.edges.first_escape.Goals as goal

pub escape_along-requires : goal.escape_along-requires
escape_along-requires g c =
    let P = nameless c.args.report.now.program in
    let same : map edge_of c.as_slice-edges.result.now ≡ edges P =
    c.as_slice-edges.ensures ∙ c.edges.ensures.value ∙ ap (λ (G : ControlGraph). G.edges) c.graph.ensures.value in
    mapped_in edge_of c.as_slice-edges.result.now (edges P) same c.loop-k.k _ (omega arith)

pub returns-in-Some : goal.returns-in-Some
returns-in-Some g c =
    let P = nameless c.args.report.now.program in
    let same : map edge_of c.as_slice-edges.result.now ≡ edges P =
    c.as_slice-edges.ensures ∙ c.edges.ensures.value ∙ ap (λ (G : ControlGraph). G.edges) c.graph.ensures.value in
    escapes_from c.args.report.now c.passes-keeps.ensures.keeps g.met.S.Scalar.ring_laws g.met.S.Numeric.numeric_laws
    c.as_slice-edges.result.now same c.loop-k.k _ (omega arith) c.loop-k.invariant c.in_ok-found.found c.in-Some.row
    c.in-Some.is c.in_ok-found.ensures

pub returns : goal.returns
returns g c =
    let P = nameless c.args.report.now.program in
    let same : map edge_of c.as_slice-edges.result.now ≡ edges P =
    c.as_slice-edges.ensures ∙ c.edges.ensures.value ∙ ap (λ (G : ControlGraph). G.edges) c.graph.ensures.value in
    mapped_all edge_of c.as_slice-edges.result.now (edges P) same
    (StaysAlong g.S.Scalar.ring g.S.Scalar.numbering g.S.Scalar.REVERSED (said c.args.report.now)) c.loop-k.k
    (omega arith) c.loop-k.invariant
