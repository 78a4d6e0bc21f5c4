use Rattle.std.proofs.Common.{◌≡◌, length, arith, subst}
use Rattle.trop_dd.specs.Parts.{IsSplit, AreAdditions}
use Rattle.trop_dd.proofs.Splits.{split_start, additions_start}
use Rattle.trop_dd.proofs.splitting.split_sides.Goals as goal

pub loop-place-init : goal.loop-place-init
loop-place-init g c = record {
  split = split_start g.S.Scalar.ring c.args.ineq.now c.args.sides.now _ _ _ c.in_ok-with_capacity-2.ensures.items
      c.in_ok-with_capacity-3.ensures.items c.new.ensures.items;
  additions = additions_start g.S.Scalar.ring c.args.system.now.n c.args.system.now.inequalities c.args.ineq.now
      c.args.sides.now _ c.in_ok-with_capacity.ensures.items;
  looks = omega arith;
}

pub returns-clause-split : goal.returns-clause-split
returns-clause-split g c =
    let all : c.loop-place.place ≡ length c.args.sides.now = omega arith in
    subst (λ m. IsSplit g.S.Scalar.ring c.args.ineq.now c.args.sides.now m c.loop-place.split.stay.items
    c.loop-place.split.kept.items c.loop-place.split.dropped.items) all c.loop-place.invariant.split

pub returns-clause-additions : goal.returns-clause-additions
returns-clause-additions g c =
    let all : c.loop-place.place ≡ length c.args.sides.now = omega arith in
    subst (λ m. AreAdditions g.S.Scalar.ring c.args.system.now.n c.args.system.now.inequalities c.args.ineq.now
    c.args.sides.now m c.loop-place.split.additions.items) all c.loop-place.invariant.additions
