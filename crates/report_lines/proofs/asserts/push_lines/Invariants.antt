use Rattle.std.proofs.Common.{◌≡◌, ◌++◌, drop}
use Rattle.report_lines.specs.Texts.{verdicts_text}
use Rattle.report_lines.proofs.asserts.push_lines.Given as goal

abbrev pub invariant-loop-k : goal.invariant-loop-k
invariant-loop-k l = l.text.items ++ verdicts_text (drop l.k l.numbers) (drop l.k l.verdicts) ≡
    l.fn.text.items ++ verdicts_text l.numbers l.verdicts
