use Rattle.std.proofs.Common.{length}
use Rattle.trop_text.specs.Pieces.{pieces_left}
use Rattle.report_texts.specs.Bodies.{body_at}
use Rattle.report_reading.specs.Progress.{progress_of}
use Rattle.report_reading.proofs.Bodies.{IsAhead}
use Rattle.report_reading.proofs.body.body.Given as goal

abbrev pub invariant-lines : goal.invariant-lines
invariant-lines g l = IsAhead g.S.Spelling.KIND g.S.Scalar.ring g.S.Scalar.numbering l.names l.points l.numbers
    (progress_of l.progress) (pieces_left l.rest)
    (body_at g.S.Spelling.KIND g.S.Scalar.ring g.S.Scalar.numbering l.names l.points l.numbers (pieces_left l.at))

abbrev pub decreases-lines : goal.decreases-lines
decreases-lines g l = length (pieces_left l.rest)
