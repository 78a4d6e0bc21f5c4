use Rattle.report_reading.proofs.Bodies.{line_shorter}
use Rattle.report_reading.proofs.body.step.Goals as goal

pub returns-in-Some-clause-shorter : goal.returns-in-Some-clause-shorter
returns-in-Some-clause-shorter g c = line_shorter g.S.Spelling.KIND g.S.Scalar.ring g.S.Scalar.numbering
    c.args.names.now _ _ _ _ c.in_ok-line.ensures.gives
