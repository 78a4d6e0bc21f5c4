use Rattle.std.proofs.Common.{◌≡◌, length}
use Rattle.tplib_cones.proofs.LineByLine.{IsWithin}
use Rattle.tplib_cones.proofs.ext.push_lines.Given as goal

abbrev pub invariant-lines : goal.invariant-lines
invariant-lines g l = record {
  bytes : l.lines.bytes ≡ l.initial.lines.bytes;
  names : l.lines.names ≡ l.initial.lines.names;
  system : l.conversion.system ≡ l.lines.given;
  width : l.conversion.n ≡ l.initial.conversion.n;
  within : IsWithin g.S.Scalar.ring l.initial.conversion.n l.conversion.system;
}

abbrev pub decreases-lines : goal.decreases-lines
decreases-lines g l = length l.lines.left
