use Rattle.std.proofs.Common.{◌≡◌, take, map}
use Rattle.report_texts.specs.Lines as lines
use Rattle.report_reading.specs.Places.{judged_of}
use Rattle.report_reading.proofs.parts.verdicts.Given as goal

abbrev pub invariant-loop-verdict : goal.invariant-loop-verdict
invariant-loop-verdict l = l.out.items ≡ map lines.Judged.proved (map judged_of (take l.verdict-index l.judged))
