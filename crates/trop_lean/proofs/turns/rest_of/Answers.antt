use Rattle.std.proofs.Common.{◌-◌, ◌++◌, length, take, drop, ap, ◌∙◌, sym, refl, subst, arith}
use Rattle.std.specs.Prelude.{All}
use Rattle.trop_theory.specs.Inequalities.{IsIn}
use Rattle.trop_lean.proofs.Standing.{size_slice, front_and_slice, fronts_as, stopped_as, stopped_longer}
use Rattle.trop_lean.proofs.turns.rest_of.Goals as goal

pub push_all-requires-clause-size : goal.push_all-requires-clause-size
push_all-requires-clause-size g c = omega (
  arith,
  c.requires.size,
  size_slice g.S.Scalar.ring (length c.args.standing.now - c.len-done.result) c.len-done.result c.args.standing.now,
)

pub returns-in-Err-clause-stopped : goal.returns-in-Err-clause-stopped
returns-in-Err-clause-stopped g c =
    let joined = front_and_slice c.args.base.now.system c.args.standing.now c.len-done.result
    (c.len-done.ensures.len ∙ ap length c.system.ensures.inequalities) c.requires.front in
    stopped_longer g.S.Scalar.ring c.args.base.now.n c.args.standing.now c.args.behind.now
    (c.args.standing.now ++ c.args.behind.now) c.in-Err.err refl
    (stopped_as g.S.Scalar.ring c.args.base.now.n c.args.base.now.n
    (c.args.base.now.system ++ take (length c.args.standing.now - c.len-done.result)
    (drop c.len-done.result c.args.standing.now)) c.args.standing.now c.in-Err.err refl joined
    c.in-Err.ensures.stopped)

pub push_all-requires-2-clause-inside : goal.push_all-requires-2-clause-inside
push_all-requires-2-clause-inside g c =
    subst (λ m. All (IsIn m) c.args.behind.now) (sym
    (ap (λ d. d.n) c.in_ok-rest.ensures.same ∙ c.in_default.ensures.width)) c.requires.inside_behind

pub push_all-requires-2-clause-fronts : goal.push_all-requires-2-clause-fronts
push_all-requires-2-clause-fronts g c =
    fronts_as g.S.Scalar.ring c.args.base.now.n c.in_ok-rest.rest.n c.in_ok-rest.rest.system
    (c.args.base.now.system ++ take (length c.args.standing.now - c.len-done.result)
    (drop c.len-done.result c.args.standing.now))
    (ap (λ d. d.n) c.in_ok-rest.ensures.same ∙ c.in_default.ensures.width)
    (ap (λ d. d.system) c.in_ok-rest.ensures.same ∙ c.in_default.ensures.system)
    c.in_default.ensures.fronts

pub returns-clause-base_fronts : goal.returns-clause-base_fronts
returns-clause-base_fronts g c =
    let joined = front_and_slice c.args.base.now.system c.args.standing.now c.len-done.result
    (c.len-done.ensures.len ∙ ap length c.system.ensures.inequalities) c.requires.front in
    fronts_as g.S.Scalar.ring c.args.base.now.n c.args.base.now.n c.args.standing.now
    (c.args.base.now.system ++ take (length c.args.standing.now - c.len-done.result)
    (drop c.len-done.result c.args.standing.now)) refl (sym joined) c.in_default.ensures.fronts

pub returns-clause-fronts : goal.returns-clause-fronts
returns-clause-fronts g c =
    let joined = front_and_slice c.args.base.now.system c.args.standing.now c.len-done.result
    (c.len-done.ensures.len ∙ ap length c.system.ensures.inequalities) c.requires.front in
    fronts_as g.S.Scalar.ring c.in_ok-rest.rest.n c.args.base.now.n (c.args.standing.now ++ c.args.behind.now)
    (c.in_ok-rest.rest.system ++ c.args.behind.now)
    (sym (ap (λ d. d.n) c.in_ok-rest.ensures.same ∙ c.in_default.ensures.width))
    (sym (ap (λ s. s ++ c.args.behind.now) (ap (λ d. d.system) c.in_ok-rest.ensures.same ∙ c.in_default.ensures.system
    ∙ joined)))
    c.in_default-push_all.ensures.fronts

pub returns-in-Err-push_all-clause-stopped : goal.returns-in-Err-push_all-clause-stopped
returns-in-Err-push_all-clause-stopped g c =
    let joined = front_and_slice c.args.base.now.system c.args.standing.now c.len-done.result
    (c.len-done.ensures.len ∙ ap length c.system.ensures.inequalities) c.requires.front in
    stopped_as g.S.Scalar.ring c.args.base.now.n c.in_ok-rest.rest.n (c.in_ok-rest.rest.system ++ c.args.behind.now)
    (c.args.standing.now ++ c.args.behind.now) c.in-Err-push_all.err
    (ap (λ d. d.n) c.in_ok-rest.ensures.same ∙ c.in_default.ensures.width)
    (ap (λ s. s ++ c.args.behind.now) (ap (λ d. d.system) c.in_ok-rest.ensures.same ∙ c.in_default.ensures.system
    ∙ joined))
    c.in-Err-push_all.ensures.stopped

pub returns-clause-base_system : goal.returns-clause-base_system
returns-clause-base_system g c =
    c.in_default.ensures.system ∙ front_and_slice c.args.base.now.system c.args.standing.now c.len-done.result
    (c.len-done.ensures.len ∙ ap length c.system.ensures.inequalities) c.requires.front

pub returns-clause-system : goal.returns-clause-system
returns-clause-system g c =
    let joined = front_and_slice c.args.base.now.system c.args.standing.now c.len-done.result
    (c.len-done.ensures.len ∙ ap length c.system.ensures.inequalities) c.requires.front in
    c.in_default-push_all.ensures.system ∙ ap (λ s. s ++ c.args.behind.now)
    (ap (λ d. d.system) c.in_ok-rest.ensures.same ∙ c.in_default.ensures.system ∙ joined)
