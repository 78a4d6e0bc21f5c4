use Rattle.std.proofs.Common.{arith}
use Rattle.trop_pairs.proofs.Sparing.{covered_next, covered_end, read_tail}
use Rattle.trop_pairs.proofs.early.covered.Goals as goal

pub with_spared-covered-requires-clause-some : goal.with_spared-covered-requires-clause-some
with_spared-covered-requires-clause-some g c = read_tail c.args.first.now _ c.index-first-place.result c.requires.some
    (c.requires.first_within c.loop-place.place-index 0 c.loop-place-test.true) c.index-first-place.is

pub loop-place-preserved : goal.loop-place-preserved
loop-place-preserved g c = covered_next g.S.Scalar.ring c.args.left c.args.right c.args.first.now c.args.second.now
    c.args.places.now c.loop-place.place-index c.index-first-place.result c.index-second-place.result c.args.start
    c.loop-place.covered c.with_spared-covered.result c.loop-place-test.true
    (c.requires.first_within c.loop-place.place-index 0 c.loop-place-test.true)
    (c.requires.second_within c.loop-place.place-index 0 c.loop-place-test.true)
    c.index-first-place.is c.index-second-place.is c.loop-place.invariant c.with_spared-covered.ensures.stay
    c.with_spared-covered.ensures.spared

pub returns-clause-spared : goal.returns-clause-spared
returns-clause-spared g c u out = covered_end g.S.Scalar.ring c.args.left c.args.right c.args.first.now
    c.args.second.now c.args.places.now c.loop-place.place-index u (omega arith) (c.loop-place.invariant u out).1
