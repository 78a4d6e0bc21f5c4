use Rattle.std.proofs.Common.{◌≡◌, ◌+◌, length}
use Rattle.trop_cones.specs.RowStops.{IsRowsStop}
use Rattle.tplib_cones.proofs.ext.stopped.Given as goal

abbrev pub invariant-rest : goal.invariant-rest
invariant-rest g l = record {
  bytes : l.lines.bytes ≡ l.initial.lines.bytes;
  names : l.lines.names ≡ l.initial.lines.names;
  stop : IsRowsStop g.S.Scalar.ring (length l.initial.lines.names + 1) l.lines.given l.count;
}

abbrev pub decreases-rest : goal.decreases-rest
decreases-rest g l = length l.lines.left
