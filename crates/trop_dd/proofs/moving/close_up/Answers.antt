use Rattle.std.proofs.Common.{rules, ◌≡◌, ◌+◌, ◌-◌, length, subst, sym, arith}
use Rattle.trop_dd.specs.Numbers.{IsClosedTo}
use Rattle.trop_dd.proofs.Moves.{closed_first, closed_again, closed_further, closed_all}
use Rattle.trop_dd.proofs.moving.close_up.Goals as goal

pub loop-place-init : goal.loop-place-init
loop-place-init g c =
    let e : c.len-place.result ≡ length c.args.sides.now.items = search rules in
    subst (λ m. IsClosedTo c.args.sides.now.items c.args.order.now.items m c.args.sides.now.items
    c.args.order.now.items c.args.at.items) (sym e)
    (closed_first c.args.sides.now.items c.args.order.now.items c.args.at.items c.requires)

pub close_at-requires-clause-closed : goal.close_at-requires-clause-closed
close_at-requires-clause-closed g c =
    let e : c.loop-place.place ≡ c.loop-place.place - 1 + 1 = omega (arith, c.loop-place-test.true) in
    closed_again c.args.sides.now.items c.loop-place.sides.items c.args.order.now.items c.loop-place.order.items
    c.loop-place.at.items (c.loop-place.place - 1 + 1) (subst (λ p. IsClosedTo c.args.sides.now.items
    c.args.order.now.items p c.loop-place.sides.items c.loop-place.order.items c.loop-place.at.items) e
    c.loop-place.invariant)

pub loop-place-preserved : goal.loop-place-preserved
loop-place-preserved g c = closed_further c.args.sides.now.items c.loop-place.sides.items c.close_at.new.sides.items
    c.args.order.now.items c.loop-place.order.items c.close_at.new.order.items c.loop-place.at.items
    c.close_at.new.at.items c.loop-place.place (c.loop-place.place - 1) c.loop-place.invariant c.close_at.ensures

pub returns : goal.returns
returns g c = closed_all c.args.sides.now.items c.loop-place.sides.items c.args.order.now.items
    c.loop-place.order.items c.loop-place.at.items c.loop-place.place (omega (arith, c.loop-place-test.false))
    c.loop-place.invariant
