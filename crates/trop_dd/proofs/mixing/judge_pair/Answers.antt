use Rattle.std.proofs.Common.{◌++◌, [], ◌∷◌, length, ap, ◌∙◌, arith, subst}
use Rattle.std.proofs.lemmas.List.{length-append}
use Rattle.trop_pruning.specs.Judged.{IsJudged}
use Rattle.trop_dd.specs.Carried.{found_rows}
use Rattle.trop_dd.proofs.Numbers.{length-found}
use Rattle.trop_dd.proofs.Mixes.{fit, left_fits, right_fits, none_given, faded_given, some_given, kept_sizes}
use Rattle.trop_dd.proofs.Narrowings.{grows_none, grows_one, over_limit}
use Rattle.trop_dd.proofs.mixing.judge_pair.Goals as goal

pub new_slot-slot-requires : goal.new_slot-slot-requires
new_slot-slot-requires g c = kept_sizes g.met.S.Scalar.ring_laws c.args.system.now.n c.args.system.now.inequalities
    c.args.ineq.now c.args.sides.now c.requires.next c.args.kept.now c.args.dropped.now c.requires.kept
    c.requires.dropped c.index-sides-kept.result c.index-sides-dropped.result c.index-sides-kept.is
    c.index-sides-dropped.is

pub fades-requires : goal.fades-requires
fades-requires g c =
    let h = fit g.met.S.Scalar.ring_laws c.args.system.now.n c.args.system.now.inequalities c.args.ineq.now
    c.args.sides.now c.requires.next c.args.kept.now c.args.dropped.now c.requires.kept c.requires.dropped
    c.index-sides-kept.result c.index-sides-dropped.result c.index-sides-kept.is c.index-sides-dropped.is
    c.sum-right.result c.sum-right.ensures c.new_slot-slot.result c.new_slot-slot.ensures.sum
    c.new_slot-slot.ensures.tail c.new_slot-slot.ensures.head in
    record {
      pair = h.pair;
      left_size = left_fits g.met.S.Scalar.ring_laws c.args.system.now.n c.args.system.now.inequalities c.args.ineq.now
          c.index-sides-kept.result c.index-sides-dropped.result c.args.dropped.now.sum c.sum-right.result
          c.new_slot-slot.result h;
      right_size = right_fits g.met.S.Scalar.ring_laws c.args.system.now.n c.args.system.now.inequalities
          c.args.ineq.now c.index-sides-kept.result c.index-sides-dropped.result c.args.dropped.now.sum
          c.sum-right.result c.new_slot-slot.result h;
    }

pub returns-then-fades-clause-grows : goal.returns-then-fades-clause-grows
returns-then-fades-clause-grows g c = grows_none (found_rows c.args.sides.now c.args.found.now.fresh.items
    c.args.found.now.order.items) c.args.looks.now c.fades.new.looks c.fades.ensures.kept

pub returns-then-fades-clause-given : goal.returns-then-fades-clause-given
returns-then-fades-clause-given g c = faded_given g.met.S.Scalar.ring_laws c.args.system.now.n
    c.args.system.now.inequalities c.args.ineq.now c.args.sides.now c.requires.next c.args.kept.now c.args.dropped.now
    c.requires.kept c.requires.dropped c.index-sides-kept.result c.index-sides-dropped.result c.index-sides-kept.is
    c.index-sides-dropped.is (found_rows c.args.sides.now c.args.found.now.fresh.items c.args.found.now.order.items)
    (c.fades.ensures.none c.if-fades.true)

pub judge-requires : goal.judge-requires
judge-requires g c =
    let h = fit g.met.S.Scalar.ring_laws c.args.system.now.n c.args.system.now.inequalities c.args.ineq.now
    c.args.sides.now c.requires.next c.args.kept.now c.args.dropped.now c.requires.kept c.requires.dropped
    c.index-sides-kept.result c.index-sides-dropped.result c.index-sides-kept.is c.index-sides-dropped.is
    c.sum-right.result c.sum-right.ensures c.new_slot-slot.result c.new_slot-slot.ensures.sum
    c.new_slot-slot.ensures.tail c.new_slot-slot.ensures.head in
    record {
      pair = h.pair;
      left_size = left_fits g.met.S.Scalar.ring_laws c.args.system.now.n c.args.system.now.inequalities c.args.ineq.now
          c.index-sides-kept.result c.index-sides-dropped.result c.args.dropped.now.sum c.sum-right.result
          c.new_slot-slot.result h;
      right_size = right_fits g.met.S.Scalar.ring_laws c.args.system.now.n c.args.system.now.inequalities
          c.args.ineq.now c.index-sides-kept.result c.index-sides-dropped.result c.args.dropped.now.sum
          c.sum-right.result c.new_slot-slot.result h;
    }

pub admit-requires : goal.admit-requires
admit-requires g c = record {
  fit = (fit g.met.S.Scalar.ring_laws c.args.system.now.n c.args.system.now.inequalities c.args.ineq.now
      c.args.sides.now c.requires.next c.args.kept.now c.args.dropped.now c.requires.kept c.requires.dropped
      c.index-sides-kept.result c.index-sides-dropped.result c.index-sides-kept.is c.index-sides-dropped.is
      c.sum-right.result c.sum-right.ensures c.new_slot-slot.result c.new_slot-slot.ensures.sum
      c.new_slot-slot.ensures.tail c.new_slot-slot.ensures.head);
  given = record {
    judged = subst (IsJudged g.S.Scalar.ring c.args.system.now.n c.args.system.now.inequalities c.args.ineq.now
        c.index-sides-kept.result.row c.index-sides-dropped.result.row) c.in-Some.is c.in_ok-judged.ensures.types;
    have = c.in_ok-judged.ensures.edges;
    tails = c.in_ok-judged.ensures.tails;
  };
  next = c.requires.next;
  within = c.requires.within;
  found = c.requires.found;
}

pub returns-in-None-clause-grows : goal.returns-in-None-clause-grows
returns-in-None-clause-grows g c = grows_none (found_rows c.args.sides.now c.args.found.now.fresh.items
    c.args.found.now.order.items) c.args.looks.now c.judge.new.looks
    (omega (arith, c.fades.ensures.kept, c.judge.ensures.kept))

pub returns-in-None-clause-given : goal.returns-in-None-clause-given
returns-in-None-clause-given g c = none_given g.met.S.Scalar.ring_laws c.args.system.now.n
    c.args.system.now.inequalities c.args.ineq.now c.args.sides.now c.requires.next c.args.kept.now c.args.dropped.now
    c.requires.kept c.requires.dropped c.index-sides-kept.result c.index-sides-dropped.result c.index-sides-kept.is
    c.index-sides-dropped.is (found_rows c.args.sides.now c.args.found.now.fresh.items c.args.found.now.order.items)
    (subst (IsJudged g.S.Scalar.ring c.args.system.now.n c.args.system.now.inequalities c.args.ineq.now
    c.index-sides-kept.result.row c.index-sides-dropped.result.row) c.in-None.is c.in_ok-judged.ensures.types)

pub returns-then-len-gt-ROW_LIMIT-clause-refused : goal.returns-then-len-gt-ROW_LIMIT-clause-refused
returns-then-len-gt-ROW_LIMIT-clause-refused g c = (
  omega (
    arith,
    c.len-then-len-gt-ROW_LIMIT.ensures.len,
    length-append c.args.system.now.inequalities (c.args.ineq.now ∷ []),
  ),
  over_limit g.S.Scalar.ring c.args.system.now.n c.args.system.now.inequalities c.args.ineq.now c.args.sides.now
      c.admit.new.found.fresh.items c.admit.new.found.order.items c.in_ok-admit-in-Some.ensures.found (omega arith),
)

pub returns-else-len-gt-ROW_LIMIT-clause-grows : goal.returns-else-len-gt-ROW_LIMIT-clause-grows
returns-else-len-gt-ROW_LIMIT-clause-grows g c = grows_one
    (found_rows c.args.sides.now c.args.found.now.fresh.items c.args.found.now.order.items)
    (found_rows c.args.sides.now c.admit.new.found.fresh.items c.admit.new.found.order.items) c.args.looks.now
    c.judge.new.looks c.admit.new.looks c.in_ok-admit-in-Some.ensures.stay
    (omega (
      arith,
      c.in_ok-admit-in-Some.ensures.count,
      length-found c.args.sides.now c.admit.new.found.fresh.items c.admit.new.found.order.items,
      length-found c.args.sides.now c.args.found.now.fresh.items c.args.found.now.order.items,
    ))
    (omega (arith, c.fades.ensures.kept, c.in_ok-judged.ensures.counted)) c.in_ok-admit-in-Some.ensures.looks

pub returns-else-len-gt-ROW_LIMIT-clause-given : goal.returns-else-len-gt-ROW_LIMIT-clause-given
returns-else-len-gt-ROW_LIMIT-clause-given g c = some_given g.met.S.Scalar.ring_laws c.args.system.now.n
    c.args.system.now.inequalities c.args.ineq.now c.args.sides.now c.requires.next c.args.kept.now c.args.dropped.now
    c.requires.kept c.requires.dropped c.index-sides-kept.result c.index-sides-dropped.result c.index-sides-kept.is
    c.index-sides-dropped.is (found_rows c.args.sides.now c.admit.new.found.fresh.items c.admit.new.found.order.items)
    c.in_ok-admit-in-Some.ensures.admitted
