use Rattle.std.proofs.Common.{◌≡◌, ◌≤◌, length}
use Rattle.trop_text.specs.Lines.{past_lines}
use Rattle.trop_text.proofs.lines.past_lines.Given as goal

abbrev pub invariant-bytes : goal.invariant-bytes
invariant-bytes l = record {
  rest : past_lines l.k l.rest ≡ past_lines l.fn.k l.fn.source;
  within : length l.rest ≤ length l.fn.source;
}

abbrev pub decreases-bytes : goal.decreases-bytes
decreases-bytes l = length l.rest
