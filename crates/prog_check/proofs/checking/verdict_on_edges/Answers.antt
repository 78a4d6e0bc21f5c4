use Rattle.cone_reports.specs.Inductive.{Stays}
use Rattle.report_value.specs.Views.{said}
use Rattle.prog_check.specs.Found.{EscapesAt}
use Rattle.prog_check.proofs.Loops.{some_of, none_of}
use Rattle.prog_check.proofs.Conditions.{escape_is}
use Rattle.prog_check.proofs.checking.verdict_on_edges.Goals as goal

pub verdict_on_points-requires-clause-stays : goal.verdict_on_points-requires-clause-stays
verdict_on_points-requires-clause-stays g c =
    let told = said c.args.report.now in
    none_of (Stays g.S.Scalar.ring g.S.Scalar.numbering g.S.Scalar.REVERSED told)
    (λ e. EscapesAt g.S.Scalar.ring g.S.Scalar.numbering g.S.Scalar.REVERSED told e.0 e.1) c.in_ok-found.found
    c.in-None.is c.in_ok-found.ensures

pub returns-in-Some : goal.returns-in-Some
returns-in-Some g c =
    let R = g.S.Scalar.ring in
    let N = g.S.Scalar.numbering in
    let told = said c.args.report.now in
    escape_is R N g.S.Scalar.REVERSED told c.requires.whole c.in-Some.escape.0 c.in-Some.escape.1
    (some_of (Stays R N g.S.Scalar.REVERSED told) (λ e. EscapesAt R N g.S.Scalar.REVERSED told e.0 e.1)
    c.in_ok-found.found c.in-Some.escape c.in-Some.is c.in_ok-found.ensures)
