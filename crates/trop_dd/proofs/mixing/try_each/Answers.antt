use Rattle.std.proofs.Common.{sym, ap, ◌∙◌, subst, arith}
use Rattle.std.specs.Prelude.{All}
use Rattle.std.proofs.lemmas.List.{take_all, get_or_default}
use Rattle.trop_pruning.specs.Pairs.{IsClosing}
use Rattle.trop_dd.specs.Parts.{IsDropped}
use Rattle.trop_dd.specs.Steps.{HasGiven}
use Rattle.trop_criterion.specs.Hypergraphs.{Has}
use Rattle.trop_dd.specs.Carried.{found_rows}
use Rattle.trop_dd.proofs.Mixes.{kept_tail}
use Rattle.trop_dd.proofs.Narrowings.{grows_none, grows_more, tried_more}
use Rattle.trop_dd.proofs.mixing.try_each.Goals as goal

pub loop-part-init : goal.loop-part-init
loop-part-init g c = record {
  found = c.requires.found;
  grows = grows_none (found_rows c.args.sides.now c.args.found.now.fresh.items c.args.found.now.order.items)
      c.args.looks.now c.args.looks.now (omega arith);
  given = λ k d l. absurd (omega arith);
  within = c.requires.within;
  looks = omega arith;
}

pub closed_by-closed-requires : goal.closed_by-closed-requires
closed_by-closed-requires g c =
    let r = kept_tail g.met.S.Scalar.ring_laws c.args.system.now.n c.args.system.now.inequalities c.args.ineq.now
    c.args.sides.now c.requires.next (found_rows c.args.sides.now c.args.found.now.fresh.items
    c.args.found.now.order.items) c.args.kept.now c.requires.kept in
    record { some = (r.0, subst (λ t. Has t r.0) (sym c.tail.ensures) r.1) }

pub try_pair-requires : goal.try_pair-requires
try_pair-requires g c = record {
  next = c.requires.next;
  kept = c.requires.kept;
  words = λ d. c.words-words.ensures ∙ ap (λ s. s.words)
      (c.index-sides-kept.is ∙ get_or_default c.args.sides.now c.args.kept.now.place c.index-sides-kept.result
      d c.requires.kept.within);
  closed = subst (λ t. IsClosing c.words-words.result.cover t c.closed_by-closed.result) c.tail.ensures
      (subst (λ k. IsClosing k c.tail.result c.closed_by-closed.result)
      (c.cover.ensures ∙ ap (λ a. a.cover) (sym c.words-words.ensures)) c.closed_by-closed.ensures);
  dropped = subst (IsDropped g.S.Scalar.ring c.args.ineq.now c.args.sides.now) (sym c.part-item.is)
      (c.requires.dropped c.loop-part.part-index c.part-item.result (omega arith));
  found = c.loop-part.invariant.found;
  within = c.loop-part.invariant.within;
}

pub loop-part-preserved : goal.loop-part-preserved
loop-part-preserved g c = record {
  found = c.in_ok-try_pair.ensures.found;
  grows = grows_more (found_rows c.args.sides.now c.args.found.now.fresh.items c.args.found.now.order.items)
      (found_rows c.args.sides.now c.loop-part.found.fresh.items c.loop-part.found.order.items)
      (found_rows c.args.sides.now c.try_pair.new.found.fresh.items c.try_pair.new.found.order.items) c.args.looks.now
      c.loop-part.looks c.try_pair.new.looks c.loop-part.invariant.grows c.in_ok-try_pair.ensures.grows
      c.in_ok-try_pair.ensures.looks;
  given = tried_more g.S.Scalar.ring c.args.system.now.n c.args.system.now.inequalities c.args.ineq.now c.args.sides.now
      (found_rows c.args.sides.now c.loop-part.found.fresh.items c.loop-part.found.order.items)
      (found_rows c.args.sides.now c.try_pair.new.found.fresh.items c.try_pair.new.found.order.items) c.args.kept.now
      c.args.dropped.now c.loop-part.part-index c.part-item.result
      (omega arith) c.part-item.is c.in_ok-try_pair.ensures.grows.stay c.loop-part.invariant.given
      c.in_ok-try_pair.ensures.given;
  within = c.in_ok-try_pair.ensures.within;
  looks = omega (arith, c.loop-part.invariant.looks, c.in_ok-try_pair.ensures.looks);
}

pub returns-clause-given : goal.returns-clause-given
returns-clause-given g c =
    subst (All (HasGiven g.S.Scalar.ring c.args.system.now.n c.args.system.now.inequalities c.args.ineq.now
    c.args.sides.now (found_rows c.args.sides.now c.loop-part.found.fresh.items c.loop-part.found.order.items)
    c.args.kept.now))
    (take_all c.loop-part.part-index c.args.dropped.now (omega arith)) c.loop-part.invariant.given
