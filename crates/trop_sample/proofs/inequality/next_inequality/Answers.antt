use Rattle.std.proofs.Common.{◌≡◌, ◌+◌, ap, length, arith}
use Rattle.trop_sample.specs.Draws.{draw}
use Rattle.trop_sample.proofs.Sampling.{next_is, draw_is, left_next, right_next, left_length}
use Rattle.trop_sample.proofs.inequality.next_inequality.Goals as goal

pub loop-i-preserved : goal.loop-i-preserved
loop-i-preserved c =
    let s = c.args.draws.now in
    let drawn : c.draw-draw.result ≡ draw s (0 + c.loop-i._i) =
    draw_is s c.loop-i._i c.loop-i.draws c.draw-draw.new.self c.draw-draw.result c.loop-i.invariant.state
    c.draw-draw.ensures.state c.draw-draw.ensures.value in
    record {
      left = left_next s c.loop-i._i c.draw-draw.result c.left_coefficient.result c.loop-i.left.items
          c.push.new.self.items drawn c.left_coefficient.ensures c.loop-i.invariant.left c.in_ok-push.ensures.items;
      right = right_next s c.loop-i._i c.draw-draw.result c.right_coefficient.result c.loop-i.right.items
          c.push-in-loop-i.new.self.items drawn c.right_coefficient.ensures c.loop-i.invariant.right
          c.in_ok-push-2.ensures.items;
      state = next_is s c.loop-i._i c.loop-i.draws c.draw-draw.new.self c.loop-i.invariant.state
          c.draw-draw.ensures.state;
    }

pub from_entries-requires : goal.from_entries-requires
from_entries-requires c = omega (
  arith,
  ap length c.as_slice.ensures.value,
  left_length c.args.draws.now c.loop-i._i c.loop-i.left.items c.loop-i.invariant.left,
)
