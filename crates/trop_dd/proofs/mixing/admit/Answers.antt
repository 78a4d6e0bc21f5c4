use Rattle.std.proofs.Common.{rules, ◌≡◌, ◌<◌, ◌≤◌, ◌^◌, ◌++◌, [], ◌∷◌, length, sym, ap, ◌∙◌, arith, subst, ap₂}
use Rattle.std.specs.Prelude.{All, AllPairs, Contains, insert}
use Rattle.std.proofs.lemmas.List.Edits.{length-insert}
use Rattle.std.proofs.lemmas.List.Elements.{All-contains_itself}
use Rattle.trop_theory.specs.Vectors.{joined, scaled, row_size}
use Rattle.trop_theory.specs.Steps.{mixed}
use Rattle.trop_theory.specs.Canonical.{RowBelow}
use Rattle.trop_theory.proofs.Placing.{stay_placed, here_placed}
use Rattle.trop_dd.specs.Carried.{found_rows}
use Rattle.trop_dd.proofs.Narrowings.{found_more, rows_put}
use Rattle.trop_dd.proofs.Mixes.{left_size, right_size, same_lengths, first_size, second_size, normal_form_unique, normalises, is_extreme}
use Rattle.trop_dd.proofs.mixing.admit.Goals as goal

pub times-first-requires : goal.times-first-requires
times-first-requires g c = omega (
  arith,
  c.factor-by.ensures.size,
  left_size g.met.S.Scalar.ring_laws c.args.system.now.n c.args.system.now.inequalities c.args.ineq.now c.args.v.now
      c.args.w.now c.args.left c.args.right c.args.slot c.requires.fit,
)

pub times-second-requires : goal.times-second-requires
times-second-requires g c = omega (
  arith,
  c.factor-by.ensures.size,
  right_size g.met.S.Scalar.ring_laws c.args.system.now.n c.args.system.now.inequalities c.args.ineq.now c.args.v.now
      c.args.w.now c.args.left c.args.right c.args.slot c.requires.fit,
)

pub mix-requires : goal.mix-requires
mix-requires g c = record {
  lengths = ap length c.row.ensures ∙ same_lengths g.met.S.Scalar.ring_laws c.args.system.now.n
      c.args.system.now.inequalities c.args.ineq.now c.args.v.now c.args.w.now c.args.left c.args.right c.args.slot
      c.requires.fit ∙ sym (ap length c.row-2.ensures);
  v_size = subst (λ x. row_size g.S.Scalar.ring x ≤ 2 ^ 57) (sym c.row.ensures) c.requires.fit.first_size;
  w_size = subst (λ x. row_size g.S.Scalar.ring x ≤ 2 ^ 57) (sym c.row-2.ensures) c.requires.fit.second_size;
  left_size = first_size g.met.S.Scalar.ring_laws c.args.system.now.n c.args.system.now.inequalities c.args.ineq.now
      c.args.v.now c.args.w.now c.args.slot c.factor-by.result c.times-first.result c.times-second.result
      (record {
        left = c.args.left;
        right = c.args.right;
        fit = c.requires.fit;
        normalises =
            c.factor-by.ensures;
        is_first = c.times-first.ensures;
        is_second = c.times-second.ensures;
      });
  right_size = second_size g.met.S.Scalar.ring_laws c.args.system.now.n c.args.system.now.inequalities c.args.ineq.now
      c.args.v.now c.args.w.now c.args.slot c.factor-by.result c.times-first.result c.times-second.result
      (record {
        left = c.args.left;
        right = c.args.right;
        fit = c.requires.fit;
        normalises =
            c.factor-by.ensures;
        is_first = c.times-first.ensures;
        is_second = c.times-second.ensures;
      });
}

pub place_of-requires : goal.place_of-requires
place_of-requires g c = record {
  within = subst (λ f. All (λ k. k < length (c.args.sides.now ++ f)) c.as_slice-2.result.now)
      (sym c.as_slice.ensures.value) (subst (All (λ k. k < length (c.args.sides.now ++ c.args.found.now.fresh.items)))
      (sym c.as_slice-2.ensures.value) c.requires.found.within);
  ascending = subst (λ f. AllPairs (RowBelow g.S.Scalar.ring) (found_rows c.args.sides.now f c.as_slice-2.result.now))
      (sym c.as_slice.ensures.value) (subst (λ o. AllPairs (RowBelow g.S.Scalar.ring)
      (found_rows c.args.sides.now c.args.found.now.fresh.items o))
      (sym c.as_slice-2.ensures.value) c.requires.found.ascending);
}

pub carried-requires : goal.carried-requires
carried-requires g c = record {
  multiples = (record {
    left = c.args.left;
    right = c.args.right;
    fit = c.requires.fit;
    normalises =
        c.factor-by.ensures;
    is_first = c.times-first.ensures;
    is_second = c.times-second.ensures;
  });
  given = c.requires.given;
  row = (c.in_ok-row.ensures ∙ ap₂ (λ a b. joined g.S.Scalar.ring (scaled g.S.Scalar.ring c.times-first.result a)
      (scaled g.S.Scalar.ring c.times-second.result b)) c.row.ensures c.row-2.ensures);
}

pub returns-in-Ok-clause-admitted : goal.returns-in-Ok-clause-admitted
returns-in-Ok-clause-admitted g c = λ x m.
    subst (Contains (found_rows c.args.sides.now c.args.found.now.fresh.items c.args.found.now.order.items))
    (normal_form_unique g.met.S.Scalar.ring_laws
    (mixed g.S.Scalar.ring c.args.ineq.now.left c.args.ineq.now.right c.args.v.now.row c.args.w.now.row)
    c.in_ok-row.row x (normalises g.met.S.Scalar.ring_laws c.args.system.now.n c.args.system.now.inequalities
    c.args.ineq.now c.args.v.now c.args.w.now c.args.slot c.factor-by.result c.times-first.result
    c.times-second.result (record {
      left = c.args.left;
      right = c.args.right;
      fit = c.requires.fit;
      normalises =
          c.factor-by.ensures;
      is_first = c.times-first.ensures;
      is_second = c.times-second.ensures;
    }) c.in_ok-row.row
    (c.in_ok-row.ensures ∙ ap₂ (λ a b. joined g.S.Scalar.ring (scaled g.S.Scalar.ring c.times-first.result a)
    (scaled g.S.Scalar.ring c.times-second.result b)) c.row.ensures c.row-2.ensures)) m)
    (subst (λ f. Contains (found_rows c.args.sides.now f c.args.found.now.order.items) c.in_ok-row.row)
    c.as_slice.ensures.value (subst (λ o. Contains (found_rows c.args.sides.now c.as_slice.result.now o)
    c.in_ok-row.row) c.as_slice-2.ensures.value c.in-Ok.ensures.found))

pub returns-in_ok-put-in-Err-clause-found : goal.returns-in_ok-put-in-Err-clause-found
returns-in_ok-put-in-Err-clause-found g c =
    found_more g.S.Scalar.ring c.args.system.now.n c.args.system.now.inequalities c.args.ineq.now c.args.sides.now
    c.args.found.now.fresh.items c.put.new.found.fresh.items c.args.found.now.order.items
    c.put.new.found.order.items c.in-Err.place _ c.in_ok-row.row c.in_ok-side-in-Err.side c.requires.found
    (search rules) c.in_ok-put-in-Err.ensures.order c.in_ok-put-in-Err.ensures.fresh c.in_ok-side-in-Err.ensures.row
    (subst (λ o. c.in-Err.place ≤ length o) c.as_slice-2.ensures.value c.in-Err.ensures.within)
    c.in_ok-side-in-Err.ensures.side
    (subst (λ f. AllPairs (RowBelow g.S.Scalar.ring)
    (insert (found_rows c.args.sides.now f c.args.found.now.order.items) c.in-Err.place c.in_ok-row.row))
    c.as_slice.ensures.value (subst (λ o. AllPairs (RowBelow g.S.Scalar.ring)
    (insert (found_rows c.args.sides.now c.as_slice.result.now o) c.in-Err.place c.in_ok-row.row))
    c.as_slice-2.ensures.value c.in-Err.ensures.place))
    (normalises g.met.S.Scalar.ring_laws c.args.system.now.n c.args.system.now.inequalities c.args.ineq.now c.args.v.now
    c.args.w.now c.args.slot c.factor-by.result c.times-first.result c.times-second.result
    (record {
      left = c.args.left;
      right = c.args.right;
      fit = c.requires.fit;
      normalises =
          c.factor-by.ensures;
      is_first = c.times-first.ensures;
      is_second = c.times-second.ensures;
    }) c.in_ok-row.row
    (c.in_ok-row.ensures ∙ ap₂ (λ a b. joined g.S.Scalar.ring (scaled g.S.Scalar.ring c.times-first.result a)
    (scaled g.S.Scalar.ring c.times-second.result b)) c.row.ensures c.row-2.ensures)).normal
    (is_extreme g.met.S.Scalar.ring_laws c.args.system.now.n c.args.system.now.inequalities c.args.ineq.now c.args.v.now
    c.args.w.now c.args.slot c.factor-by.result c.times-first.result c.times-second.result
    (record {
      left = c.args.left;
      right = c.args.right;
      fit = c.requires.fit;
      normalises =
          c.factor-by.ensures;
      is_first = c.times-first.ensures;
      is_second = c.times-second.ensures;
    }) c.in_ok-row.row
    (c.in_ok-row.ensures ∙ ap₂ (λ a b. joined g.S.Scalar.ring (scaled g.S.Scalar.ring c.times-first.result a)
    (scaled g.S.Scalar.ring c.times-second.result b)) c.row.ensures c.row-2.ensures) c.args.types
    c.args.found.now.room.edges c.requires.given)

pub returns-in_ok-put-in-Err-clause-stay : goal.returns-in_ok-put-in-Err-clause-stay
returns-in_ok-put-in-Err-clause-stay g c = stay_placed
    (found_rows c.args.sides.now c.args.found.now.fresh.items c.args.found.now.order.items)
    (found_rows c.args.sides.now c.put.new.found.fresh.items c.put.new.found.order.items) c.in-Err.place c.in_ok-row.row
    (rows_put g.S.Scalar.ring c.args.system.now.n c.args.system.now.inequalities c.args.ineq.now c.args.sides.now
    c.args.found.now.fresh.items c.put.new.found.fresh.items c.args.found.now.order.items c.put.new.found.order.items
    c.in-Err.place _ c.in_ok-row.row c.in_ok-side-in-Err.side c.requires.found
    (search rules) c.in_ok-put-in-Err.ensures.order c.in_ok-put-in-Err.ensures.fresh c.in_ok-side-in-Err.ensures.row)

pub returns-in_ok-put-in-Err-clause-admitted : goal.returns-in_ok-put-in-Err-clause-admitted
returns-in_ok-put-in-Err-clause-admitted g c = λ x m.
    subst (Contains (found_rows c.args.sides.now c.put.new.found.fresh.items c.put.new.found.order.items))
    (normal_form_unique g.met.S.Scalar.ring_laws
    (mixed g.S.Scalar.ring c.args.ineq.now.left c.args.ineq.now.right c.args.v.now.row c.args.w.now.row)
    c.in_ok-row.row x (normalises g.met.S.Scalar.ring_laws c.args.system.now.n c.args.system.now.inequalities
    c.args.ineq.now c.args.v.now c.args.w.now c.args.slot c.factor-by.result c.times-first.result
    c.times-second.result (record {
      left = c.args.left;
      right = c.args.right;
      fit = c.requires.fit;
      normalises =
          c.factor-by.ensures;
      is_first = c.times-first.ensures;
      is_second = c.times-second.ensures;
    }) c.in_ok-row.row
    (c.in_ok-row.ensures ∙ ap₂ (λ a b. joined g.S.Scalar.ring (scaled g.S.Scalar.ring c.times-first.result a)
    (scaled g.S.Scalar.ring c.times-second.result b)) c.row.ensures c.row-2.ensures)) m)
    (here_placed (found_rows c.args.sides.now c.args.found.now.fresh.items c.args.found.now.order.items)
    (found_rows c.args.sides.now c.put.new.found.fresh.items c.put.new.found.order.items) c.in-Err.place
    c.in_ok-row.row (rows_put g.S.Scalar.ring c.args.system.now.n c.args.system.now.inequalities c.args.ineq.now
    c.args.sides.now c.args.found.now.fresh.items c.put.new.found.fresh.items c.args.found.now.order.items
    c.put.new.found.order.items c.in-Err.place _ c.in_ok-row.row c.in_ok-side-in-Err.side c.requires.found
    (search rules) c.in_ok-put-in-Err.ensures.order c.in_ok-put-in-Err.ensures.fresh
    c.in_ok-side-in-Err.ensures.row))
