use Rattle.std.proofs.Common.{◌≡◌, ◌+◌, ◌*◌}
use Rattle.trop_sample.specs.Draws.{state_after}
use Rattle.trop_sample.specs.Samples.{sample_of}
use Rattle.trop_sample.proofs.sample.make.Given as goal

abbrev pub invariant-loop-k : goal.invariant-loop-k
invariant-loop-k l = record {
  width : l.system.n ≡ l.vars + 1;
  inequalities : l.system.inequalities ≡ sample_of l.seed l.vars l._k;
  state : l.draws ≡ state_after l.seed (l._k * (l.vars + 1));
}
