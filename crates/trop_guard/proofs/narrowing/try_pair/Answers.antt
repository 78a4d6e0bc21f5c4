use Rattle.std.proofs.Common.{◌≡◌, arith, true≢false, sym, ◌∙◌}
use Rattle.std.proofs.lemmas.List.Elements.{All-contains_itself}
use Rattle.trop_guard.specs.Found.{AreFound}
use Rattle.trop_guard.proofs.Pairs.{can_mix, mixed_wide, mixed_row_small, mixed_extreme, HasMixed-found, HasMixed-stale, found_more, found_over}
use Rattle.trop_guard.proofs.narrowing.try_pair.Goals as goal

pub mixed_row-requires : goal.mixed_row-requires
mixed_row-requires g c = can_mix g.met.S.Scalar.ring_laws c.args.parts.now.kept.n c.args.ineq.now
    c.args.parts.now.kept.rows c.args.parts.now.rights.items c.args.parts.now.dropped.rows c.requires.parts c.args.v.now
    c.args.w.now c.requires.v c.requires.w

pub is_fresh-requires : goal.is_fresh-requires
is_fresh-requires g c =
    let laws = g.met.S.Scalar.ring_laws in
    record {
      parts = c.requires.parts;
      long = mixed_wide laws c.args.parts.now.kept.n c.args.ineq.now c.args.parts.now.kept.rows
          c.args.parts.now.rights.items c.args.parts.now.dropped.rows c.requires.parts c.args.v.now c.args.w.now
          c.requires.v c.requires.w c.in_ok-x.x c.in_ok-x.ensures;
      size = mixed_row_small laws c.args.parts.now.kept.n c.args.ineq.now c.args.parts.now.kept.rows
          c.args.parts.now.rights.items c.args.parts.now.dropped.rows c.requires.parts c.args.v.now c.args.w.now
          c.requires.v c.requires.w c.in_ok-x.x c.in_ok-x.ensures;
    }

pub returns-then-len-gt-ROW_LIMIT-clause-refused : goal.returns-then-len-gt-ROW_LIMIT-clause-refused
returns-then-len-gt-ROW_LIMIT-clause-refused g c =
    let R = g.S.Scalar.ring in
    let laws = g.met.S.Scalar.ring_laws in
    let now : AreFound R c.args.parts.now.kept.n c.args.ineq.now c.args.parts.now.kept.rows
    c.args.parts.now.dropped.rows c.admit.new.rows.items =
    found_more g.S.Scalar.ring c.args.parts.now.kept.n c.args.ineq.now c.args.parts.now.kept.rows
    c.args.parts.now.dropped.rows c.args.found.now.items c.admit.new.rows.items c.in_ok-x.x
    c.requires.found c.in_ok-admit.ensures.ascending c.in_ok-admit.ensures.only c.in_ok-admit.ensures.stay
    c.in_ok-x.ensures.normal
    (mixed_extreme laws c.args.parts.now.kept.n c.args.ineq.now c.args.parts.now.kept.rows c.args.parts.now.rights.items
    c.args.parts.now.dropped.rows c.requires.parts c.args.v.now c.args.w.now c.requires.v c.requires.w c.in_ok-x.x
    c.in_ok-x.ensures c.requires.finite (c.is_fresh.ensures.0 c.if-is_fresh.true)) in
    found_over g.S.Scalar.ring c.args.parts.now.kept.n c.args.ineq.now c.args.parts.now.kept.rows
    c.args.parts.now.dropped.rows c.admit.new.rows.items now (omega arith)

pub returns-else-len-gt-ROW_LIMIT-clause-found : goal.returns-else-len-gt-ROW_LIMIT-clause-found
returns-else-len-gt-ROW_LIMIT-clause-found g c =
    let laws = g.met.S.Scalar.ring_laws in
    found_more g.S.Scalar.ring c.args.parts.now.kept.n c.args.ineq.now c.args.parts.now.kept.rows
    c.args.parts.now.dropped.rows c.args.found.now.items c.admit.new.rows.items c.in_ok-x.x
    c.requires.found c.in_ok-admit.ensures.ascending c.in_ok-admit.ensures.only c.in_ok-admit.ensures.stay
    c.in_ok-x.ensures.normal
    (mixed_extreme laws c.args.parts.now.kept.n c.args.ineq.now c.args.parts.now.kept.rows c.args.parts.now.rights.items
    c.args.parts.now.dropped.rows c.requires.parts c.args.v.now c.args.w.now c.requires.v c.requires.w c.in_ok-x.x
    c.in_ok-x.ensures c.requires.finite (c.is_fresh.ensures.0 c.if-is_fresh.true))

pub returns-else-len-gt-ROW_LIMIT-clause-mixed : goal.returns-else-len-gt-ROW_LIMIT-clause-mixed
returns-else-len-gt-ROW_LIMIT-clause-mixed g c =
    HasMixed-found g.met.S.Scalar.ring_laws c.args.parts.now.kept.n c.args.ineq.now c.args.parts.now.kept.rows
    c.args.parts.now.rights.items c.args.parts.now.dropped.rows c.requires.parts c.args.v.now c.args.w.now
    c.requires.v c.requires.w c.in_ok-x.x c.in_ok-x.ensures c.admit.new.rows.items c.in_ok-admit.ensures.admitted

pub returns-else-is_fresh-clause-mixed : goal.returns-else-is_fresh-clause-mixed
returns-else-is_fresh-clause-mixed g c =
    HasMixed-stale g.met.S.Scalar.ring_laws c.args.parts.now.kept.n c.args.ineq.now c.args.parts.now.kept.rows
    c.args.parts.now.rights.items c.args.parts.now.dropped.rows c.requires.parts c.args.v.now c.args.w.now
    c.requires.v c.requires.w c.in_ok-x.x c.in_ok-x.ensures c.args.found.now.items c.requires.found
    (λ f. true≢false (sym (c.is_fresh.ensures.1 f) ∙ c.if-is_fresh.false))

pub returns-else-is_fresh-clause-stay : goal.returns-else-is_fresh-clause-stay
returns-else-is_fresh-clause-stay g c = All-contains_itself c.args.found.now.items
