use Rattle.std.proofs.Common.{◌<◌, ◌≤◌, ◌+◌, ◌-◌, ◌/◌, length, sym, ap, ◌∙◌, arith}
use Rattle.trop_theory.specs.Compare.{compare_rows}
use Rattle.trop_dd.specs.Carried.{found_rows}
use Rattle.trop_dd.proofs.Numbers.{found_read, length-found}
use Rattle.trop_dd.proofs.Searching.{between_low, between_high, between_found, between_none}
use Rattle.trop_dd.proofs.found.place_of.Goals as goal

pub loop-low-preserved-in-Less : goal.loop-low-preserved-in-Less
loop-low-preserved-in-Less g c =
    let half : c.loop-low.low + (c.loop-low.high - c.loop-low.low) / 2 < c.loop-low.high =
    omega (arith, c.loop-low-test.true) in
    between_low g.met.S.Scalar.ring_laws g.S.PartialEq.eq g.met.S.Scalar.decides
    (found_rows c.args.sides.now c.args.fresh.now c.args.order.now) c.args.row.now c.requires.ascending
    c.loop-low.low c.loop-low.high (c.loop-low.low + (c.loop-low.high - c.loop-low.low) / 2) c.loop-low.invariant
    half (λ d. ap (λ y. compare_rows g.S.PartialEq.eq g.S.Scalar.ring y c.args.row.now)
    (found_read c.args.sides.now c.args.fresh.now c.args.order.now
    (c.loop-low.low + (c.loop-low.high - c.loop-low.low) / 2) d
    (omega (
      arith,
      half,
      c.loop-low.invariant.within,
      length-found c.args.sides.now c.args.fresh.now c.args.order.now,
    ))) ∙ sym c.in-Less.ensures)

pub returns-in-Equal-clause-found : goal.returns-in-Equal-clause-found
returns-in-Equal-clause-found g c =
    let half : c.loop-low.low + (c.loop-low.high - c.loop-low.low) / 2 < c.loop-low.high =
    omega (arith, c.loop-low-test.true) in
    between_found g.met.S.Scalar.ring_laws g.S.PartialEq.eq g.met.S.Scalar.decides
    (found_rows c.args.sides.now c.args.fresh.now c.args.order.now) c.args.row.now c.requires.ascending
    c.loop-low.low c.loop-low.high (c.loop-low.low + (c.loop-low.high - c.loop-low.low) / 2) c.loop-low.invariant
    half (ap (λ y. compare_rows g.S.PartialEq.eq g.S.Scalar.ring y c.args.row.now)
    (found_read c.args.sides.now c.args.fresh.now c.args.order.now
    (c.loop-low.low + (c.loop-low.high - c.loop-low.low) / 2) c.args.row.now
    (omega (
      arith,
      half,
      c.loop-low.invariant.within,
      length-found c.args.sides.now c.args.fresh.now c.args.order.now,
    ))) ∙ sym c.in-Equal.ensures)

pub loop-low-preserved : goal.loop-low-preserved
loop-low-preserved g c =
    let half : c.loop-low.low + (c.loop-low.high - c.loop-low.low) / 2 < c.loop-low.high =
    omega (arith, c.loop-low-test.true) in
    between_high g.met.S.Scalar.ring_laws g.S.PartialEq.eq g.met.S.Scalar.decides
    (found_rows c.args.sides.now c.args.fresh.now c.args.order.now) c.args.row.now c.requires.ascending
    c.loop-low.low c.loop-low.high (c.loop-low.low + (c.loop-low.high - c.loop-low.low) / 2) c.loop-low.invariant
    (omega arith) half (λ d. ap (λ y. compare_rows g.S.PartialEq.eq g.S.Scalar.ring y c.args.row.now)
    (found_read c.args.sides.now c.args.fresh.now c.args.order.now
    (c.loop-low.low + (c.loop-low.high - c.loop-low.low) / 2) d
    (omega (
      arith,
      half,
      c.loop-low.invariant.within,
      length-found c.args.sides.now c.args.fresh.now c.args.order.now,
    ))) ∙ sym c.in-Greater.ensures)

pub returns-clause-place : goal.returns-clause-place
returns-clause-place g c = between_none g.met.S.Scalar.ring_laws g.S.PartialEq.eq g.met.S.Scalar.decides
    (found_rows c.args.sides.now c.args.fresh.now c.args.order.now) c.args.row.now c.requires.ascending c.loop-low.low
    c.loop-low.high 0 c.loop-low.invariant (omega (arith, c.loop-low-test.false))
