use Rattle.std.proofs.Common.{arith}
use Rattle.report_lines.proofs.Loops.{drop_next, one_verdict}
use Rattle.report_lines.proofs.asserts.push_lines.Goals as goal

pub loop-k-preserved : goal.loop-k-preserved
loop-k-preserved c =
    let k = c.loop-k.k in
    let same = c.requires in
    one_verdict _ _ _ _ _ _ _ _ _ c.loop-k.invariant
    (drop_next c.args.numbers.now k _ (omega arith))
    (drop_next c.args.verdicts.now k _ (omega (arith, same)))
    c.in_ok-push_verdict.ensures
