use Rattle.report_reading.proofs.LineRests.{rest_of_at}
use Rattle.report_reading.proofs.lines.line_rest.Goals as goal

pub returns-in-At : goal.returns-in-At
returns-in-At g c = rw c.in-At.is (rw (rest_of_at g.S.Spelling.KIND g.S.Scalar.ring g.S.Scalar.numbering
    c.args.names.now _) c.at_rest.ensures)
