use Rattle.std.proofs.Common.{sym, ◌∙◌, arith, true≢false}
use Rattle.prog_check.proofs.Judged.{wrong_at, right_more}
use Rattle.prog_check.proofs.verdicts.first_wrong.Goals as goal

pub returns-then-not-is_right_at : goal.returns-then-not-is_right_at
returns-then-not-is_right_at g c =
    wrong_at c.args.report.now c.verdicts-verdicts.ensures.keeps g.S.Scalar.REVERSED c.args.asserts.now c.requires
    c.verdicts-verdicts.result.now c.verdicts-verdicts.ensures.value c.loop-k.k c.index-asserts-k.result _
    c.index-asserts-k.is (omega arith) c.loop-k.invariant
    (λ h. true≢false (sym (c.is_right_at.ensures.1 h) ∙ c.if-not-is_right_at.true))

pub loop-k-preserved : goal.loop-k-preserved
loop-k-preserved g c =
    right_more c.args.report.now c.verdicts-verdicts.ensures.keeps g.S.Scalar.REVERSED c.args.asserts.now c.requires
    c.verdicts-verdicts.result.now c.verdicts-verdicts.ensures.value c.loop-k.k c.index-asserts-k.result _
    c.index-asserts-k.is (omega arith) c.loop-k.invariant
    (c.is_right_at.ensures.0 c.if-not-is_right_at.false)
