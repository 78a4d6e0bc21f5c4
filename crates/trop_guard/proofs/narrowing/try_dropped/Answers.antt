use Rattle.std.proofs.Common.{arith, ap, get_or, length, ◌∙◌, subst}
use Rattle.std.specs.Prelude.{All}
use Rattle.std.proofs.lemmas.List.{take_all}
use Rattle.std.proofs.lemmas.List.Elements.{All-contains_itself}
use Rattle.trop_guard.specs.Found.{HasMixed}
use Rattle.trop_guard.proofs.Pairs.{dropped_more, stays_more, contains_read}
use Rattle.trop_guard.proofs.narrowing.try_dropped.Goals as goal

pub loop-w-init : goal.loop-w-init
loop-w-init g c = record {
  items = c.as_slice-w-items.ensures.rows;
  found = c.requires.found;
  stay = All-contains_itself c.args.found.now.items;
  mixed = λ k d l. absurd (omega arith);
  within = c.requires.within;
}

pub try_pair-requires : goal.try_pair-requires
try_pair-requires g c = record {
  parts = c.requires.parts;
  v = c.requires.v;
  w = contains_read c.args.parts.now.dropped.rows c.as_slice-w-items.result.now c.loop-w.w-index c.w-item.result
      c.as_slice-w-items.ensures.rows (omega arith) c.w-item.is;
  finite = c.requires.finite;
  found = c.loop-w.invariant.found;
  within = c.loop-w.invariant.within;
}

pub loop-w-preserved : goal.loop-w-preserved
loop-w-preserved g c = record {
  items = c.loop-w.invariant.items;
  found = c.in_ok-try_pair.ensures.found;
  stay = stays_more c.args.found.now.items c.loop-w.found.items c.try_pair.new.found.items c.loop-w.invariant.stay
      c.in_ok-try_pair.ensures.stay;
  mixed = dropped_more g.S.Scalar.ring c.args.parts.now.kept.n c.args.ineq.now c.args.parts.now.kept.rows
      c.args.parts.now.dropped.rows c.loop-w.found.items c.try_pair.new.found.items c.args.v.now c.loop-w.w-index
      c.w-item.result
      (omega (arith, ap length c.as_slice-w-items.ensures.rows))
      (c.w-item.is ∙ ap (λ r. get_or r c.loop-w.w-index c.w-item.result) c.as_slice-w-items.ensures.rows)
      c.in_ok-try_pair.ensures.stay c.loop-w.invariant.mixed c.in_ok-try_pair.ensures.mixed;
  within = c.in_ok-try_pair.ensures.within;
}

pub returns-clause-mixed : goal.returns-clause-mixed
returns-clause-mixed g c =
    subst (All (HasMixed g.S.Scalar.ring c.args.parts.now.kept.n c.args.ineq.now c.args.parts.now.kept.rows
    c.args.parts.now.dropped.rows c.loop-w.found.items c.args.v.now))
    (take_all c.loop-w.w-index c.args.parts.now.dropped.rows (omega (arith, ap length c.as_slice-w-items.ensures.rows)))
    c.loop-w.invariant.mixed
