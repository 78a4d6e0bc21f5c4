use Rattle.std.proofs.Common.{◌≡◌, length, drop}
use Rattle.trop_text.specs.Pieces.{pieces_left}
use Rattle.report_reading.proofs.steps.ahead.Given as goal

abbrev pub invariant-pieces : goal.invariant-pieces
invariant-pieces l = drop (length (pieces_left l.left)) (pieces_left l.here)
    ≡ drop (length (pieces_left l.other)) (pieces_left l.at)

abbrev pub decreases-pieces : goal.decreases-pieces
decreases-pieces l = length (pieces_left l.left)
