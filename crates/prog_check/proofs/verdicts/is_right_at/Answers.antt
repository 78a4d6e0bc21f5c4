use Rattle.std.proofs.Common.{◌≡◌, ap, arith}
use Rattle.cone_reports.specs.Reports.{Part, part_at}
use Rattle.prog_asserts.specs.Views.{assertion_of}
use Rattle.report_value.specs.Views.{part_of, said}
use Rattle.prog_check.proofs.Judged.{assert_at, assert_on}
use Rattle.prog_check.proofs.Parts.{width_is, part_is, right_by_rows}
use Rattle.prog_check.proofs.verdicts.is_right_at.Goals as goal

pub part-requires : goal.part-requires
part-requires g c =
    assert_at c.args.report.now c.passes-keeps.ensures.keeps (assertion_of c.args.assertion) c.requires

pub is_right-requires-clause-fits : goal.is_right-requires-clause-fits
is_right-requires-clause-fits g c =
    assert_on c.args.report.now c.passes-keeps.ensures.keeps c.part.result.now.rows.n c.part.ensures.kept.rows_width
    (assertion_of c.args.assertion) c.requires

pub is_right-requires-clause-size : goal.is_right-requires-clause-size
is_right-requires-clause-size g c = omega (arith, c.part.ensures.kept.part.small)

pub returns : goal.returns
returns g c =
    let r = c.args.report.now in
    let a = assertion_of c.args.assertion in
    let kept = c.passes-keeps.ensures.keeps in
    let n = c.part.result.now.rows.n in
    let rows = c.part.result.now.rows.rows in
    let is : (part_at (said r) a.point).rows ≡ rows = ap (λ (x : Part _). x.rows)
    (part_is r kept a.point (part_of c.part.result.now) c.part.ensures.value) in
    right_by_rows g.S.Scalar.ring g.S.Scalar.numbering g.S.Scalar.REVERSED (said r) n
    (width_is r kept n c.part.ensures.kept.rows_width) a c.args.proved c.is_right.result rows is c.is_right.ensures
