use Rattle.std.proofs.Common.{◌≡◌, sym, ◌∙◌, arith}
use Rattle.cone_reports.specs.Reports.{part_at}
use Rattle.report_value.specs.Views.{part_of, said}
use Rattle.prog_check.proofs.Parts.{width_is, part_is, valid_by_rows, invalid_by_rows}
use Rattle.prog_check.proofs.Steps.{failure_number}
use Rattle.prog_check.proofs.points.failure_at.Goals as goal

pub first_invalid-requires-clause-width : goal.first_invalid-requires-clause-width
first_invalid-requires-clause-width g c = c.part-part.ensures.kept.invs_width ∙ sym c.part-part.ensures.kept.rows_width

pub first_invalid-requires-clause-size : goal.first_invalid-requires-clause-size
first_invalid-requires-clause-size g c = omega (arith, c.part-part.ensures.kept.part.small)

pub first_invalid-requires-clause-numbers : goal.first_invalid-requires-clause-numbers
first_invalid-requires-clause-numbers g c = omega (arith, c.part-part.ensures.kept.part.printed_small)

pub returns-in-Some : goal.returns-in-Some
returns-in-Some g c =
    let r = c.args.report.now in
    let part = c.part-part.result.now in
    let is : part_at (said r) c.args.point ≡ part_of part =
    part_is r c.part-part.ensures.keeps c.args.point (part_of part) c.part-part.ensures.value in
    failure_number g.S.Scalar.ring (said r) c.args.point c.in-Some.k
    (invalid_by_rows g.S.Scalar.ring g.S.Scalar.numbering g.S.Scalar.REVERSED (said r) part.rows.n
    (width_is r c.part-part.ensures.keeps part.rows.n c.part-part.ensures.kept.rows_width) c.args.point c.in-Some.k
    (part_of part) is c.in-Some.ensures.first)

pub returns-in-None : goal.returns-in-None
returns-in-None g c =
    let r = c.args.report.now in
    let kept = c.part-part.ensures.keeps in
    let part = c.part-part.result.now in
    valid_by_rows g.S.Scalar.ring g.S.Scalar.numbering g.S.Scalar.REVERSED (said r) part.rows.n
    (width_is r kept part.rows.n c.part-part.ensures.kept.rows_width) c.args.point (part_of part)
    (part_is r kept c.args.point (part_of part) c.part-part.ensures.value) c.in-None.ensures.first
