use Rattle.trop_dd.proofs.Starts.{start_from}
use Rattle.trop_dd.proofs.Narrowings.{found_at_start, within_at_start, narrowed_describes, narrowed_counts}
use Rattle.trop_dd.proofs.narrowing.narrowed.Goals as goal

pub staying-requires : goal.staying-requires
staying-requires g c = record {
  within = c.requires.numbers.within;
  others_within = λ i d l. (c.requires.split.stay_each i d l).0;
}

pub try_all-requires-clause-found : goal.try_all-requires-clause-found
try_all-requires-clause-found g c =
    let starts = start_from g.S.Scalar.ring c.args.ineq.now c.args.sides.now c.args.stay.now c.args.order.now
    c.in_ok-start.start.items c.args.kept.now c.args.dropped.now c.requires.split c.requires.numbers
    c.requires.ascending c.in_ok-start.ensures in
    found_at_start g.met.S.Scalar.ring_laws c.args.system.now.n
    c.args.system.now.inequalities c.args.ineq.now c.args.sides.now c.requires.next c.args.stay.now c.args.kept.now
    c.args.dropped.now c.requires.split c.in_ok-start.start.items starts c.new.result.items c.new.ensures.items

pub try_all-requires-clause-within : goal.try_all-requires-clause-within
try_all-requires-clause-within g c =
    let starts = start_from g.S.Scalar.ring c.args.ineq.now c.args.sides.now c.args.stay.now c.args.order.now
    c.in_ok-start.start.items c.args.kept.now c.args.dropped.now c.requires.split c.requires.numbers
    c.requires.ascending c.in_ok-start.ensures in
    within_at_start g.met.S.Scalar.ring_laws c.args.system.now.n
    c.args.system.now.inequalities c.args.ineq.now c.args.sides.now c.requires.next c.args.stay.now c.args.kept.now
    c.args.dropped.now c.requires.split c.in_ok-start.start.items starts

pub returns-clause-described : goal.returns-clause-described
returns-clause-described g c =
    let starts = start_from g.S.Scalar.ring c.args.ineq.now c.args.sides.now c.args.stay.now c.args.order.now
    c.in_ok-start.start.items c.args.kept.now c.args.dropped.now c.requires.split c.requires.numbers
    c.requires.ascending c.in_ok-start.ensures in
    narrowed_describes g.met.S.Scalar.ring_laws c.args.system.now.n
    c.args.system.now.inequalities c.args.ineq.now c.args.sides.now c.requires.next c.args.stay.now c.args.kept.now
    c.args.dropped.now c.requires.split c.in_ok-start.start.items starts c.new.result.items
    c.try_all.new.found.fresh.items c.try_all.new.found.order.items c.args.looks.now c.try_all.new.looks
    c.new.ensures.items c.in_ok-try_all.ensures.found c.in_ok-try_all.ensures.grows c.in_ok-try_all.ensures.given
    c.in_ok-try_all.ensures.within

pub returns-clause-counts : goal.returns-clause-counts
returns-clause-counts g c =
    let starts = start_from g.S.Scalar.ring c.args.ineq.now c.args.sides.now c.args.stay.now c.args.order.now
    c.in_ok-start.start.items c.args.kept.now c.args.dropped.now c.requires.split c.requires.numbers
    c.requires.ascending c.in_ok-start.ensures in
    narrowed_counts g.met.S.Scalar.ring_laws c.args.system.now.n c.args.system.now.inequalities
    c.args.ineq.now c.args.sides.now c.requires.next c.args.stay.now c.args.kept.now c.args.dropped.now
    c.requires.split c.in_ok-start.start.items starts c.new.result.items c.try_all.new.found.fresh.items
    c.try_all.new.found.order.items c.args.looks.now c.try_all.new.looks c.new.ensures.items
    c.in_ok-try_all.ensures.found c.in_ok-try_all.ensures.grows c.in_ok-try_all.ensures.given
