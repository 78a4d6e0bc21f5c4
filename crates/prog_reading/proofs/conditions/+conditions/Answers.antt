use Rattle.std.proofs.Common.{◌<◌, ◌≤◌, length, arith, sym, ◌∙◌}
use Rattle.std.proofs.lemmas.Result.{err_from_is_err_and}
use Rattle.prog_theory.specs.Limits.{program_limits}
use Rattle.prog_reading.proofs.Follow.{fails_from}
use Rattle.prog_reading.proofs.Links.{linked_start, linked_fails_first, linked_done, linked_more, linked_fails}
use Rattle.prog_reading.proofs.ConditionSteps.{negation_fails, at_ask, at_compare, at_bang_ok, at_bang_err, at_bracket, roomy}
use Rattle.prog_reading.proofs.conditions.+conditions.Goals as goal

pub conjunction-returns-in_err-first-clause-gives : goal.conjunction-returns-in_err-first-clause-gives
conjunction-returns-in_err-first-clause-gives t c =
    let p = err_from_is_err_and c.from_residual.result c.from_residual.ensures.1 in
    rw (p.1, p.2) (fails_from _ _ _ c.in_err-first.ensures.gives (linked_fails_first _ _ _ _))

pub conjunction-links-init : goal.conjunction-links-init
conjunction-links-init t c = (
  linked_start _ _ _ _ _ _ c.in_ok-first.ensures.gives,
  c.in_ok-first.ensures.source,
  c.in_ok-first.ensures.shorter,
)

pub conjunction-returns-in_err-other-clause-gives : goal.conjunction-returns-in_err-other-clause-gives
conjunction-returns-in_err-other-clause-gives t c =
    let p = err_from_is_err_and c.from_residual-in_err-other.result c.from_residual-in_err-other.ensures.1 in
    rw (p.1, p.2) (fails_from _ _ _ c.in_err-other.ensures.gives
    (λ miss e. linked_fails _ _ _ _ _ _ _ miss c.links.invariant.0 c.in-Some.ensures.passed e))

pub conjunction-links-smaller : goal.conjunction-links-smaller
conjunction-links-smaller t c = omega (arith, c.in-Some.ensures.shorter, c.in_ok-other.ensures.shorter)

pub conjunction-links-preserved : goal.conjunction-links-preserved
conjunction-links-preserved t c = (
  rw c.in_ok-all.ensures (linked_more _ _ _ _ _ _ _ _ _ c.links.invariant.0 c.in-Some.ensures.passed
      c.in_ok-other.ensures.gives c.in_ok-other.ensures.shorter),
  c.in_ok-other.ensures.source ∙ c.in-Some.ensures.source ∙ c.links.invariant.1,
  omega (arith, c.in-Some.ensures.shorter, c.in_ok-other.ensures.shorter, c.links.invariant.2),
)

pub conjunction-returns-clause-gives : goal.conjunction-returns-clause-gives
conjunction-returns-clause-gives t c = linked_done _ _ _ _ _ _ c.links.invariant.0 c.in_default.ensures.passed

pub condition-returns-in_err-first-clause-gives : goal.condition-returns-in_err-first-clause-gives
condition-returns-in_err-first-clause-gives t c =
    let p = err_from_is_err_and c.from_residual.result c.from_residual.ensures.1 in
    rw (p.1, p.2) (fails_from _ _ _ c.in_err-first.ensures.gives (linked_fails_first _ _ _ _))

pub condition-links-init : goal.condition-links-init
condition-links-init t c = (
  linked_start _ _ _ _ _ _ c.in_ok-first.ensures.gives,
  c.in_ok-first.ensures.source,
  c.in_ok-first.ensures.shorter,
)

pub condition-returns-in_err-other-clause-gives : goal.condition-returns-in_err-other-clause-gives
condition-returns-in_err-other-clause-gives t c =
    let p = err_from_is_err_and c.from_residual-in_err-other.result c.from_residual-in_err-other.ensures.1 in
    rw (p.1, p.2) (fails_from _ _ _ c.in_err-other.ensures.gives
    (λ miss e. linked_fails _ _ _ _ _ _ _ miss c.links.invariant.0 c.in-Some.ensures.passed e))

pub condition-links-smaller : goal.condition-links-smaller
condition-links-smaller t c = omega (arith, c.in-Some.ensures.shorter, c.in_ok-other.ensures.shorter)

pub condition-links-preserved : goal.condition-links-preserved
condition-links-preserved t c = (
  rw c.in_ok-all.ensures (linked_more _ _ _ _ _ _ _ _ _ c.links.invariant.0 c.in-Some.ensures.passed
      c.in_ok-other.ensures.gives c.in_ok-other.ensures.shorter),
  c.in_ok-other.ensures.source ∙ c.in-Some.ensures.source ∙ c.links.invariant.1,
  omega (arith, c.in-Some.ensures.shorter, c.in_ok-other.ensures.shorter, c.links.invariant.2),
)

pub condition-returns-clause-gives : goal.condition-returns-clause-gives
condition-returns-clause-gives t c = linked_done _ _ _ _ _ _ c.links.invariant.0 c.in_default.ensures.passed

pub negation-returns-in_err-begun-clause-gives : goal.negation-returns-in_err-begun-clause-gives
negation-returns-in_err-begun-clause-gives t c =
    let p = err_from_is_err_and c.from_residual.result c.from_residual.ensures.1 in
    rw (p.1, p.2) (fails_from _ _ _ c.in_err-begun.ensures.gives
    (negation_fails program_limits c.args.names.now c.args.depth _))

pub negation-returns-in-Ask-clause-gives : goal.negation-returns-in-Ask-clause-gives
negation-returns-in-Ask-clause-gives t c =
    let e = rw c.in-Ask.is at c.in_ok-begun.ensures.gives in
    rw c.any.ensures (at_ask program_limits c.args.names.now c.args.depth _ _ e)

pub negation-returns-in-Compare-clause-gives : goal.negation-returns-in-Compare-clause-gives
negation-returns-in-Compare-clause-gives t c =
    let e = rw c.in-Compare.is at c.in_ok-begun.ensures.gives in
    rw (at_compare program_limits c.args.names.now c.args.depth _ _ _ e) c.comparison_rest.ensures.gives

pub negation-overflow_sub-depth : goal.negation-overflow_sub-depth
negation-overflow_sub-depth t c =
    let room : 0 < c.args.depth = roomy c.args.depth (rw c.in-Bang.is at c.in_ok-begun.ensures.room) in
    omega arith

pub negation-negation-requires : goal.negation-negation-requires
negation-negation-requires t c =
    let room : 0 < c.args.depth = roomy c.args.depth (rw c.in-Bang.is at c.in_ok-begun.ensures.room) in
    (omega arith, c.requires)

pub negation-returns-in_err-inner-in-Bang-clause-gives : goal.negation-returns-in_err-inner-in-Bang-clause-gives
negation-returns-in_err-inner-in-Bang-clause-gives t c =
    let e = rw c.in-Bang.is at c.in_ok-begun.ensures.gives in
    let room : 0 < c.args.depth = roomy c.args.depth (rw c.in-Bang.is at c.in_ok-begun.ensures.room) in
    let p = err_from_is_err_and c.from_residual-in_err-inner-in-Bang.result
    c.from_residual-in_err-inner-in-Bang.ensures.1 in
    rw (p.1, p.2) (fails_from _ _ _ c.in_err-inner-in-Bang.ensures.gives
    (λ miss k. at_bang_err program_limits c.args.names.now c.args.depth _ _ miss room e k))

pub negation-returns-in_ok-all-in-Bang-clause-gives : goal.negation-returns-in_ok-all-in-Bang-clause-gives
negation-returns-in_ok-all-in-Bang-clause-gives t c =
    let e = rw c.in-Bang.is at c.in_ok-begun.ensures.gives in
    let room : 0 < c.args.depth = roomy c.args.depth (rw c.in-Bang.is at c.in_ok-begun.ensures.room) in
    rw c.in_ok-all-in-Bang.ensures (at_bang_ok program_limits c.args.names.now c.args.depth _ _ _ _ room
    e c.in_ok-inner-in-Bang.ensures.gives)

pub negation-overflow_sub-depth-in-Bracket : goal.negation-overflow_sub-depth-in-Bracket
negation-overflow_sub-depth-in-Bracket t c =
    let room : 0 < c.args.depth = roomy c.args.depth (rw c.in-Bracket.is at c.in_ok-begun.ensures.room) in
    omega arith

pub negation-bracketed-requires : goal.negation-bracketed-requires
negation-bracketed-requires t c =
    let room : 0 < c.args.depth = roomy c.args.depth (rw c.in-Bracket.is at c.in_ok-begun.ensures.room) in
    (omega arith, c.requires)

pub negation-returns-in-Bracket-clause-gives : goal.negation-returns-in-Bracket-clause-gives
negation-returns-in-Bracket-clause-gives t c =
    let e = rw c.in-Bracket.is at c.in_ok-begun.ensures.gives in
    let room : 0 < c.args.depth = roomy c.args.depth (rw c.in-Bracket.is at c.in_ok-begun.ensures.room) in
    rw (at_bracket program_limits c.args.names.now c.args.depth _ _ room e) c.bracketed.ensures.gives
