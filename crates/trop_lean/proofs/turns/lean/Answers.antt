-- Index: loop-k-init, turn-requires-clause-fronts, turn-requires-clause-inside, turn-requires-clause-inside_behind,
-- turn-requires-clause-small, turn-requires-clause-size_behind, returns-in-Err-Limit-clause-stopped, loop-k-preserved,
-- returns-clause-lean, returns-clause-same, returns-clause-certified, returns-clause-unstopped.
use Rattle.std.proofs.Common.{◌≤◌, ◌<◌, ◌+◌, ◌-◌, ◌++◌, ◌^◌, [], length, get_or, take, drop, ap, ◌∙◌, sym, refl, subst, arith}
use Rattle.std.specs.Prelude.{All}
use Rattle.std.proofs.lemmas.List.{drop_all}
use Rattle.std.proofs.lemmas.List.Elements.{All-drop}
use Rattle.trop_theory.specs.Inequalities.{IsIn, inequality_size, system_size}
use Rattle.trop_duality.specs.LeanStops.{IsLeanStop}
use Rattle.trop_duality.proofs.Lean.{lean_keeps, lean_certifies}
use Rattle.trop_duality.proofs.LeanLoops.{IsLeanSoFar, IsUnstopped, lean_first, lean_last, unstopped_first, no_lean_stop, IsLeanStop-from}
use Rattle.trop_lean.specs.Fronts.{AreFrontsWithin, IsStoppedAt}
use Rattle.trop_lean.specs.Turns.{IsTurn}
use Rattle.trop_lean.proofs.Standing.{size_at, size_slice, inside_at, slice_is, no_front, fronts_none, fronts_as, stopped_as}
use Rattle.trop_lean.proofs.Taken.{turn_as, front_after, size_after, few_after, one_each_after, next_is, lean_turn, unstopped_turn}
use Rattle.trop_lean.proofs.turns.lean.Goals as goal

pub loop-k-init : goal.loop-k-init
loop-k-init g c =
    let R = g.S.Scalar.ring in
    let n = c.args.system.now.n in
    let whole = c.args.system.now.inequalities in
    record {
      width = c.new.ensures.width ∙ c.n-n.ensures.value;
      row_width = c.new-2.ensures.width ∙ c.n-n.ensures.value;
      base_width = c.in_ok-base.ensures.width ∙ c.n-n.ensures.value;
      front = no_front c.in_ok-base.base.system c.new.result.inequalities c.in_ok-base.ensures.system;
      fronts = fronts_as R c.n-n.result n c.in_ok-base.base.system []
          (sym c.n-n.ensures.value) c.in_ok-base.ensures.system
          (fronts_none R c.n-n.result c.in_ok-base.base.rows c.in_ok-base.ensures.described);
      size = omega (arith, ap (system_size R) c.new.ensures.inequalities);
      few = omega (arith, ap length c.new.ensures.inequalities);
      one_each = omega (arith, ap length c.new.ensures.inequalities, ap length c.new-2.ensures.rows);
      lean = subst (λ s. IsLeanSoFar R n whole s c.new-2.result.rows whole) (sym c.new.ensures.inequalities)
          (subst (λ r. IsLeanSoFar R n whole [] r whole) (sym c.new-2.ensures.rows) (lean_first R n whole));
      unstopped = subst (λ s. IsUnstopped R n whole s 0 whole) (sym c.new.ensures.inequalities)
          (unstopped_first R n whole);
      looks = omega arith;
    }

pub turn-requires-clause-fronts : goal.turn-requires-clause-fronts
turn-requires-clause-fronts g c = fronts_as g.S.Scalar.ring c.args.system.now.n c.loop-k.base.n c.loop-k.base.system
    c.loop-k.base.system c.loop-k.invariant.base_width refl c.loop-k.invariant.fronts

pub turn-requires-clause-inside : goal.turn-requires-clause-inside
turn-requires-clause-inside g c =
    let S = c.as_slice-inequalities.result.now in
    subst (λ m. IsIn m c.index-inequalities-k.result) (sym c.loop-k.invariant.base_width)
    (inside_at c.args.system.now.n S c.loop-k.k c.index-inequalities-k.result
    (subst (All (IsIn c.args.system.now.n)) (sym c.as_slice-inequalities.ensures.inequalities)
    c.as_slice-inequalities.ensures.wide) (omega arith) c.index-inequalities-k.is)

pub turn-requires-clause-inside_behind : goal.turn-requires-clause-inside_behind
turn-requires-clause-inside_behind g c =
    let S = c.as_slice-inequalities.result.now in
    subst (λ s. All (IsIn c.loop-k.base.n) s) (sym (slice_is S (c.loop-k.k + 1)))
    (subst (λ m. All (IsIn m) (drop (c.loop-k.k + 1) S)) (sym c.loop-k.invariant.base_width)
    (All-drop (IsIn c.args.system.now.n) (c.loop-k.k + 1) S
    (subst (All (IsIn c.args.system.now.n)) (sym c.as_slice-inequalities.ensures.inequalities)
    c.as_slice-inequalities.ensures.wide)))

pub turn-requires-clause-small : goal.turn-requires-clause-small
turn-requires-clause-small g c =
    let R = g.S.Scalar.ring in
    omega (
      arith,
      c.requires.size,
      ap (system_size R) c.as_slice-inequalities.ensures.inequalities,
      size_at R c.as_slice-inequalities.result.now c.loop-k.k c.index-inequalities-k.result
          (omega arith) c.index-inequalities-k.is,
    )

pub turn-requires-clause-size_behind : goal.turn-requires-clause-size_behind
turn-requires-clause-size_behind g c =
    let R = g.S.Scalar.ring in
    omega (
      arith,
      c.requires.size,
      ap (system_size R) c.as_slice-inequalities.ensures.inequalities,
      size_slice R (length c.as_slice-inequalities.result.now - (c.loop-k.k + 1))
          (c.loop-k.k + 1) c.as_slice-inequalities.result.now,
    )

pub returns-in-Err-Limit-clause-stopped : goal.returns-in-Err-Limit-clause-stopped
returns-in-Err-Limit-clause-stopped g c =
    let R = g.S.Scalar.ring in
    let n = c.args.system.now.n in
    let whole = c.args.system.now.inequalities in
    let S = c.as_slice-inequalities.result.now in
    let k = c.loop-k.k in
    let kept = c.loop-k.list.kept.inequalities in
    let at : k < length S = omega arith in
    let lt : k < length whole = omega (arith, ap length c.as_slice-inequalities.ensures.inequalities) in
    let read = c.index-inequalities-k.is ∙ ap (λ s. get_or s k c.index-inequalities-k.result)
    c.as_slice-inequalities.ensures.inequalities in
    let next = next_is R n whole k c.index-inequalities-k.result lt read in
    let behind = slice_is S (k + 1) ∙ ap (drop (k + 1)) c.as_slice-inequalities.ensures.inequalities in
    let stop = stopped_as R n c.loop-k.base.n (kept ++ take (length S - (k + 1)) (drop (k + 1) S))
    (kept ++ drop (k + 1) whole) c.in-Err-Limit.field-0 c.loop-k.invariant.base_width
    (ap (λ s. kept ++ s) behind) c.in-Err-Limit.ensures.stopped in
    subst (IsLeanStop R n whole (k + 1)) (sym c.in-Err-Limit.j-is)
    (IsLeanStop-from R n whole kept k c.index-inequalities-k.result (drop (k + 1) whole) c.in-Err-Limit.j
    (subst (IsUnstopped R n whole kept k) next c.loop-k.invariant.unstopped)
    (subst (IsStoppedAt R n (kept ++ drop (k + 1) whole)) c.in-Err-Limit.field-0-is stop))

pub loop-k-preserved : goal.loop-k-preserved
loop-k-preserved g c =
    let R = g.S.Scalar.ring in
    let n = c.args.system.now.n in
    let whole = c.args.system.now.inequalities in
    let S = c.as_slice-inequalities.result.now in
    let k = c.loop-k.k in
    let p = c.index-inequalities-k.result in
    let kept = c.loop-k.list.kept.inequalities in
    let rows = c.loop-k.list.rows.rows in
    let kept_new = c.turn.new.list.kept.inequalities in
    let rows_new = c.turn.new.list.rows.rows in
    let slice = take (length S - (k + 1)) (drop (k + 1) S) in
    let rest = kept ++ drop (k + 1) whole in
    let at : k < length S = omega arith in
    let lt : k < length whole = omega (arith, ap length c.as_slice-inequalities.ensures.inequalities) in
    let read = c.index-inequalities-k.is ∙ ap (λ s. get_or s k c.index-inequalities-k.result)
    c.as_slice-inequalities.ensures.inequalities in
    let next = next_is R n whole k p lt read in
    let behind = ap (λ s. kept ++ s) (slice_is S (k + 1)
    ∙ ap (drop (k + 1)) c.as_slice-inequalities.ensures.inequalities) in
    let small : inequality_size R p ≤ 2 ^ 49 = omega (
      arith,
      c.requires.size,
      ap (system_size R) c.as_slice-inequalities.ensures.inequalities,
      size_at R S k p at c.index-inequalities-k.is,
    ) in
    let turn : IsTurn R n rest p kept rows kept_new rows_new =
    turn_as R n c.loop-k.base.n (kept ++ slice) rest p kept kept_new rows rows_new c.loop-k.invariant.base_width
    behind c.in-Ok.ensures.turn in
    let fronts : AreFrontsWithin R n rest = fronts_as R c.loop-k.base.n n rest (kept ++ slice)
    (sym c.loop-k.invariant.base_width) (sym behind) c.in-Ok.ensures.fronts in
    record {
      width = c.turn.ensures.kept_width ∙ c.loop-k.invariant.width;
      row_width = c.turn.ensures.rows_width ∙ c.loop-k.invariant.row_width;
      base_width = c.in-Ok.ensures.base_width ∙ c.loop-k.invariant.base_width;
      front = front_after R n rest p kept kept_new rows rows_new c.turn.new.base.system c.in-Ok.ensures.base_system
          turn;
      fronts = fronts_as R c.loop-k.base.n n c.turn.new.base.system kept
          (sym c.loop-k.invariant.base_width) c.in-Ok.ensures.base_system c.in-Ok.ensures.base_fronts;
      size = size_after R n rest p kept kept_new rows rows_new (2 ^ 49) c.loop-k.invariant.size small turn;
      few = few_after R n rest p kept kept_new rows rows_new k c.loop-k.invariant.few turn;
      one_each = one_each_after R n rest p kept kept_new rows rows_new c.loop-k.invariant.one_each turn;
      lean = lean_turn R n whole kept kept_new rows rows_new p (drop (k + 1) whole)
          (drop k whole) next c.loop-k.invariant.lean turn;
      unstopped = unstopped_turn R n whole kept kept_new rows rows_new k p (drop (k + 1) whole)
          (drop k whole) next c.loop-k.invariant.unstopped fronts turn;
      looks = omega (arith, c.loop-k.invariant.looks, c.turn.ensures.looks);
    }

pub returns-clause-lean : goal.returns-clause-lean
returns-clause-lean g c =
    let R = g.S.Scalar.ring in
    let n = c.args.system.now.n in
    let whole = c.args.system.now.inequalities in
    let kept = c.loop-k.list.kept.inequalities in
    let rows = c.loop-k.list.rows.rows in
    let done = drop_all c.loop-k.k whole (omega (arith, ap length c.as_slice-inequalities.ensures.inequalities)) in
    lean_last R n whole kept rows (subst (IsLeanSoFar R n whole kept rows) done c.loop-k.invariant.lean)

pub returns-clause-same : goal.returns-clause-same
returns-clause-same g c =
    let R = g.S.Scalar.ring in
    let n = c.args.system.now.n in
    let whole = c.args.system.now.inequalities in
    let kept = c.loop-k.list.kept.inequalities in
    let rows = c.loop-k.list.rows.rows in
    let done = drop_all c.loop-k.k whole (omega (arith, ap length c.as_slice-inequalities.ensures.inequalities)) in
    lean_keeps R n whole kept rows (lean_last R n whole kept rows
    (subst (IsLeanSoFar R n whole kept rows) done c.loop-k.invariant.lean))

pub returns-clause-certified : goal.returns-clause-certified
returns-clause-certified g c =
    let R = g.S.Scalar.ring in
    let n = c.args.system.now.n in
    let whole = c.args.system.now.inequalities in
    let kept = c.loop-k.list.kept.inequalities in
    let rows = c.loop-k.list.rows.rows in
    let done = drop_all c.loop-k.k whole (omega (arith, ap length c.as_slice-inequalities.ensures.inequalities)) in
    lean_certifies R n whole kept rows (lean_last R n whole kept rows
    (subst (IsLeanSoFar R n whole kept rows) done c.loop-k.invariant.lean))

pub returns-clause-unstopped : goal.returns-clause-unstopped
returns-clause-unstopped g c =
    let R = g.S.Scalar.ring in
    let n = c.args.system.now.n in
    let whole = c.args.system.now.inequalities in
    let kept = c.loop-k.list.kept.inequalities in
    let done = drop_all c.loop-k.k whole (omega (arith, ap length c.as_slice-inequalities.ensures.inequalities)) in
    no_lean_stop R n whole kept c.loop-k.k (subst (IsUnstopped R n whole kept c.loop-k.k) done
    c.loop-k.invariant.unstopped)
