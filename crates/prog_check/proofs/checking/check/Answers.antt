use Rattle.std.proofs.Common.{◌≡◌}
use Rattle.cone_reports.specs.Verdicts as theory
use Rattle.cone_reports.specs.Verdicts.{IsVerdict}
use Rattle.report_value.specs.Views.{said}
use Rattle.prog_check.specs.Views.{verdict_of}
use Rattle.prog_check.specs.Truths.{IsTrueAtVisits}
use Rattle.prog_check.proofs.Conditions.{ok_moved, one_verdict, verdict_is_true}
use Rattle.prog_check.proofs.checking.check.Goals as goal

pub returns-clause-unique : goal.returns-clause-unique
returns-clause-unique g c =
    let R = g.S.Scalar.ring in
    let N = g.S.Scalar.numbering in
    let r = c.args.report.now in
    ok_moved (λ v. IsVerdict R N g.S.Scalar.REVERSED (said r) (verdict_of v))
    (λ v. (other : theory.Verdict _) → IsVerdict R N g.S.Scalar.REVERSED (said r) other → other ≡ verdict_of v)
    c.verdict_on.result
    (λ v h other k. one_verdict g.met.S.Scalar.ring_laws g.met.S.Numeric.numeric_laws r c.passes-keeps.ensures.keeps
    (verdict_of v) h other k) c.verdict_on.ensures

pub returns-clause-true_at_visits : goal.returns-clause-true_at_visits
returns-clause-true_at_visits g c =
    let r = c.args.report.now in
    ok_moved
    (λ v. IsVerdict g.S.Scalar.ring g.S.Scalar.numbering g.S.Scalar.REVERSED (said r) (verdict_of v))
    (λ v. verdict_of v ≡ theory.Inductive
    → IsTrueAtVisits g.S.Scalar.ring g.S.Scalar.numbering g.S.Scalar.REVERSED (said r)) c.verdict_on.result
    (λ v h e. verdict_is_true g.met.S.Scalar.ring_laws g.met.S.Numeric.numeric_laws r c.passes-keeps.ensures.keeps
    (verdict_of v) h e) c.verdict_on.ensures
