use Rattle.std.proofs.Common.{ℕ}
use Rattle.cone_reports.specs.Inductive.{IsValidAt}
use Rattle.report_value.specs.Views.{said}
use Rattle.prog_check.specs.Found.{FailsAt}
use Rattle.prog_check.proofs.Loops.{some_of, none_of}
use Rattle.prog_check.proofs.Conditions.{failure_is}
use Rattle.prog_check.proofs.checking.verdict_on_points.Goals as goal

pub verdict_on_asserts-requires-clause-valid : goal.verdict_on_asserts-requires-clause-valid
verdict_on_asserts-requires-clause-valid g c =
    let R = g.S.Scalar.ring in
    let r = c.args.report.now in
    none_of ((p : ℕ) → IsValidAt R (said r) p) (λ f. FailsAt R (said r) f.0 f.1) c.first_failure.result c.in-None.is
    c.first_failure.ensures

pub returns-in-Some : goal.returns-in-Some
returns-in-Some g c =
    let R = g.S.Scalar.ring in
    let r = c.args.report.now in
    failure_is R g.S.Scalar.numbering g.S.Scalar.REVERSED (said r) c.requires.whole c.requires.stays
    c.in-Some.failure.0 c.in-Some.failure.1
    (some_of ((p : ℕ) → IsValidAt R (said r) p) (λ f. FailsAt R (said r) f.0 f.1) c.first_failure.result
    c.in-Some.failure c.in-Some.is c.first_failure.ensures)
