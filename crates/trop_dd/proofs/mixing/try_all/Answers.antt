use Rattle.std.proofs.Common.{sym, subst, arith}
use Rattle.std.specs.Prelude.{All}
use Rattle.std.proofs.lemmas.List.{take_all}
use Rattle.trop_dd.specs.Parts.{IsKept}
use Rattle.trop_dd.specs.Steps.{HasGiven}
use Rattle.trop_dd.specs.Carried.{found_rows}
use Rattle.trop_dd.proofs.Narrowings.{grows_none, grows_more, tried_kept_more}
use Rattle.trop_dd.proofs.mixing.try_all.Goals as goal

pub loop-part-init : goal.loop-part-init
loop-part-init g c = record {
  found = c.requires.found;
  grows = grows_none (found_rows c.args.sides.now c.args.found.now.fresh.items c.args.found.now.order.items)
      c.args.looks.now c.args.looks.now (omega arith);
  given = λ k d l. absurd (omega arith);
  within = c.requires.within;
  looks = omega arith;
}

pub try_kept-requires : goal.try_kept-requires
try_kept-requires g c = record {
  next = c.requires.next;
  kept = subst (IsKept g.S.Scalar.ring c.args.ineq.now c.args.sides.now) (sym c.part-item.is)
      (c.requires.kept c.loop-part.part-index c.part-item.result (omega arith));
  dropped = c.requires.dropped;
  found = c.loop-part.invariant.found;
  within = c.loop-part.invariant.within;
}

pub loop-part-preserved : goal.loop-part-preserved
loop-part-preserved g c = record {
  found = c.in_ok-try_kept.ensures.found;
  grows = grows_more (found_rows c.args.sides.now c.args.found.now.fresh.items c.args.found.now.order.items)
      (found_rows c.args.sides.now c.loop-part.found.fresh.items c.loop-part.found.order.items)
      (found_rows c.args.sides.now c.try_kept.new.found.fresh.items c.try_kept.new.found.order.items) c.args.looks.now
      c.loop-part.looks c.try_kept.new.looks c.loop-part.invariant.grows c.in_ok-try_kept.ensures.grows
      c.in_ok-try_kept.ensures.looks;
  given = tried_kept_more g.S.Scalar.ring c.args.system.now.n c.args.system.now.inequalities c.args.ineq.now
      c.args.sides.now (found_rows c.args.sides.now c.loop-part.found.fresh.items c.loop-part.found.order.items)
      (found_rows c.args.sides.now c.try_kept.new.found.fresh.items c.try_kept.new.found.order.items) c.args.kept.now
      c.args.dropped.now c.loop-part.part-index c.part-item.result
      (omega arith) c.part-item.is c.in_ok-try_kept.ensures.grows.stay c.loop-part.invariant.given
      c.in_ok-try_kept.ensures.given;
  within = c.in_ok-try_kept.ensures.within;
  looks = omega (arith, c.loop-part.invariant.looks, c.in_ok-try_kept.ensures.looks);
}

pub returns-clause-given : goal.returns-clause-given
returns-clause-given g c =
    subst (All (λ first. All (HasGiven g.S.Scalar.ring c.args.system.now.n c.args.system.now.inequalities
    c.args.ineq.now c.args.sides.now (found_rows c.args.sides.now c.loop-part.found.fresh.items
    c.loop-part.found.order.items) first) c.args.dropped.now))
    (take_all c.loop-part.part-index c.args.kept.now (omega arith)) c.loop-part.invariant.given
