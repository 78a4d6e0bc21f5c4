use Rattle.std.proofs.Common.{◌≡◌, ◌+◌, ◌*◌, map, length, arith}
use Rattle.trop_scalar.proofs.Sums.{raised_more, sizes_of_parts, words_back, read_at, length-map}
use Rattle.trop_scalar.proofs.lanes.sum_of_first.Goals as goal

pub raised-best-requires-clause-sizes : goal.raised-best-requires-clause-sizes
raised-best-requires-clause-sizes g c =
    let u = map g.S.Worded.held c.args.coeffs.now in
    let v = map g.S.Worded.held c.args.entries.now in
    sizes_of_parts (c.loop-k.k * 8) 8 u v _ _
    (read_at (c.loop-k.k * 8) 8 u c.lanes_at.result c.lanes_at.ensures.values (omega (arith, c.requires.sizes)))
    (read_at (c.loop-k.k * 8) 8 v c.lanes_at-in-loop-k.result c.lanes_at-in-loop-k.ensures.values
    (omega (arith, c.requires.sizes)))
    c.requires.sizes

pub loop-k-preserved : goal.loop-k-preserved
loop-k-preserved g c =
    let u = map g.S.Worded.held c.args.coeffs.now in
    let v = map g.S.Worded.held c.args.entries.now in
    let long : length u ≡ length c.args.coeffs.now = length-map g.S.Worded.held c.args.coeffs.now in
    let wide : length v ≡ length c.args.entries.now = length-map g.S.Worded.held c.args.entries.now in
    let next = raised_more u v (c.loop-k.k * 8) _ c.raised-best.result _ _ (omega (arith, long, c.requires.within))
    (omega (arith, long, wide, c.requires.lengths)) c.requires.sizes c.raised-best.ensures.length
    (read_at (c.loop-k.k * 8) 8 u c.lanes_at.result c.lanes_at.ensures.values (omega (arith, c.requires.sizes)))
    (read_at (c.loop-k.k * 8) 8 v c.lanes_at-in-loop-k.result c.lanes_at-in-loop-k.ensures.values
    (omega (arith, c.requires.sizes)))
    c.raised-best.ensures.lanes c.loop-k.invariant in
    let on : (c.loop-k.k + 1) * 8 ≡ c.loop-k.k * 8 + 8 = omega arith in
    rw (on, words_back c.raised-best.result next.size) next
