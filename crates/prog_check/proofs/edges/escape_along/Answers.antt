use Rattle.std.proofs.Common.{◌≡◌, ap, sym, ◌∙◌, arith}
use Rattle.prog_graph.specs.Views.{edge_of}
use Rattle.cone_reports.specs.Reports.{Part, part_at}
use Rattle.cone_reports.specs.Verdicts.{Leaves}
use Rattle.report_value.specs.Views.{part_of, said}
use Rattle.prog_check.specs.Firsts.{IsOutside}
use Rattle.prog_check.proofs.Loops.{found_moved}
use Rattle.prog_check.proofs.Parts.{edge_from, edge_to, edge_fits_in, edge_numbers, normal_rows_finite, width_is, part_is, stays_by_rows, leaves_by_rows}
use Rattle.prog_check.proofs.edges.escape_along.Goals as goal

pub part-source-requires : goal.part-source-requires
part-source-requires g c =
    edge_from c.args.report.now c.passes-keeps.ensures.keeps (edge_of c.args.edge.now) c.requires

pub part-target-requires : goal.part-target-requires
part-target-requires g c =
    edge_to c.args.report.now c.passes-keeps.ensures.keeps (edge_of c.args.edge.now) c.requires

pub escape-requires-clause-width : goal.escape-requires-clause-width
escape-requires-clause-width g c =
    c.part-target.ensures.kept.rows_width ∙ sym c.part-source.ensures.kept.rows_width

pub escape-requires-clause-movable : goal.escape-requires-clause-movable
escape-requires-clause-movable g c =
    let r = c.args.report.now in
    let kept = c.passes-keeps.ensures.keeps in
    let source = c.part-source.ensures.kept in
    record {
      fits = edge_fits_in r kept c.part-source.result.now.rows.n source.rows_width (edge_of c.args.edge.now) c.requires;
      numbers = edge_numbers r kept (edge_of c.args.edge.now) c.requires;
      few = omega (arith, source.part.lines.rows_few);
      size = omega (arith, source.part.small);
      finite = normal_rows_finite g.met.S.Scalar.ring_laws c.part-source.result.now.rows.n
          c.part-source.result.now.rows.rows source.part.normal;
    }

pub escape-requires-clause-target_size : goal.escape-requires-clause-target_size
escape-requires-clause-target_size g c = omega (arith, c.part-target.ensures.kept.part.small)

pub returns : goal.returns
returns g c =
    let R = g.S.Scalar.ring in
    let N = g.S.Scalar.numbering in
    let r = c.args.report.now in
    let kept = c.passes-keeps.ensures.keeps in
    let e = edge_of c.args.edge.now in
    let n = c.part-source.result.now.rows.n in
    let source = c.part-source.result.now.rows.rows in
    let target = c.part-target.result.now.rows.rows in
    let width = width_is r kept n c.part-source.ensures.kept.rows_width in
    let from_is : (part_at (said r) e.from).rows ≡ source = ap (λ (x : Part _). x.rows)
    (part_is r kept e.from (part_of c.part-source.result.now) c.part-source.ensures.value) in
    let to_is : (part_at (said r) e.to).rows ≡ target = ap (λ (x : Part _). x.rows)
    (part_is r kept e.to (part_of c.part-target.result.now) c.part-target.ensures.value) in
    found_moved (IsOutside R N g.S.Scalar.REVERSED n e.op source target) (Leaves R N g.S.Scalar.REVERSED (said r) e)
    c.escape.result
    (λ h. stays_by_rows R N g.S.Scalar.REVERSED (said r) n width e source target from_is to_is h)
    (λ row o. leaves_by_rows R N g.S.Scalar.REVERSED (said r) n width e source target row from_is to_is o)
    c.escape.ensures
