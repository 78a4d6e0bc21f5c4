use Rattle.std.proofs.Common.{◌≡◌, arith, ap, ◌∙◌, ◌+◌}
use Rattle.trop_sample.specs.Samples.{sample_of}
use Rattle.trop_sample.proofs.Sampling.{size_of_sample, sample_room, inequality_inside, sample_next, state_next}
use Rattle.trop_sample.proofs.sample.make.Goals as goal

pub push-requires-clause-wide : goal.push-requires-clause-wide
push-requires-clause-wide c = inequality_inside c.loop-k.draws
    (c.args.vars + 1) c.loop-k.system.n c.in_ok-next_inequality.field-0 c.in_ok-next_inequality.ensures.inequality
    c.loop-k.invariant.width

pub push-requires-clause-room : goal.push-requires-clause-room
push-requires-clause-room c = omega (
  arith,
  sample_room c.args.seed c.args.vars c.loop-k._k c.loop-k.system.inequalities
      c.loop-k.invariant.inequalities,
)

pub loop-k-preserved : goal.loop-k-preserved
loop-k-preserved c = record {
  width = c.in_ok-push.ensures.width ∙ c.loop-k.invariant.width;
  inequalities = sample_next c.args.seed c.args.vars c.loop-k._k c.loop-k.draws c.loop-k.system.inequalities
      c.push.new.self.inequalities c.in_ok-next_inequality.field-0 c.loop-k.invariant.inequalities
      c.loop-k.invariant.state c.in_ok-next_inequality.ensures.inequality c.in_ok-push.ensures.ok;
  state = state_next c.args.seed (c.args.vars + 1) c.loop-k._k c.loop-k.draws c.next_inequality.new.draws
      c.loop-k.invariant.state c.in_ok-next_inequality.ensures.state;
}

pub returns-clause-size : goal.returns-clause-size
returns-clause-size c = size_of_sample c.args.seed c.args.vars c.args.rows c.loop-k.system.inequalities
    (let e : c.loop-k._k ≡ c.args.rows = omega arith in
    c.loop-k.invariant.inequalities ∙ ap (sample_of c.args.seed c.args.vars) e)
