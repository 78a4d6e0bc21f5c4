use Rattle.std.proofs.Common.{List, map, ap, ap₂, ◌∙◌}
use Rattle.report_texts.specs.Lines as lines
use Rattle.report_reading.specs.declared.place.Judged.{Judged}
use Rattle.report_reading.specs.Heads.{head_of}
use Rattle.report_reading.specs.Places.{judged_of}
use Rattle.report_reading.proofs.Wholes.{report_with}
use Rattle.report_reading.proofs.read.report.Goals as goal

pub returns : goal.returns
returns g c = c.new.ensures ∙ ap₂ (report_with (head_of c.args.head) c.args.program) c.in_ok-parts.ensures.value
    (c.in_ok-verdicts.ensures ∙ ap (λ (js : List Judged). map lines.Judged.proved (map judged_of js))
    c.as_slice.ensures.value)
