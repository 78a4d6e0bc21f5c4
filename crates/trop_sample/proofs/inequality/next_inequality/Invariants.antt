use Rattle.std.proofs.Common.{◌≡◌}
use Rattle.trop_sample.specs.Draws.{state_after}
use Rattle.trop_sample.specs.Samples.{inequality_from}
use Rattle.trop_sample.proofs.inequality.next_inequality.Given as goal

abbrev pub invariant-loop-i : goal.invariant-loop-i
invariant-loop-i l = record {
  left : l.left.items ≡ (inequality_from l.initial.draws l._i 0).left;
  right : l.right.items ≡ (inequality_from l.initial.draws l._i 0).right;
  state : l.draws ≡ state_after l.initial.draws l._i;
}
