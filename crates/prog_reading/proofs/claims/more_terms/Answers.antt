use Rattle.std.proofs.Common.{◌≡◌, ◌∙◌, List, [], ◌∷◌, ◌++◌, ap, arith, refl}
use Rattle.std.proofs.lemmas.Result.{err_from_is_err_and}
use Rattle.prog_theory.specs.States.{Term}
use Rattle.prog_tree.specs.Terms.{term_of}
use Rattle.prog_reading.proofs.Follow.{fails_from}
use Rattle.prog_reading.proofs.TermSteps.{listed_first, listed_next, listed_done, listed_fails, first_some, next_some}
use Rattle.prog_reading.proofs.claims.more_terms.Goals as goal

pub terms-init : goal.terms-init
terms-init c =
    let e : c.push.new.self ≡ term_of c.args.first ∷ [] =
    c.in_ok-push.ensures.added ∙ ap (λ (z : List Term). z ++ term_of c.args.first ∷ []) c.new-terms.ensures in
    (listed_first c.args.names.now _ _ _ e, first_some _ _ e, refl, omega arith)

pub returns-in_err-term-clause-gives : goal.returns-in_err-term-clause-gives
returns-in_err-term-clause-gives c =
    let p = err_from_is_err_and c.from_residual-in_err-term.result c.from_residual-in_err-term.ensures.1 in
    rw (p.1, p.2) (fails_from _ _ _ c.in_err-term.ensures.gives
    (λ miss e. listed_fails c.args.names.now _ _ _ _ miss c.terms.invariant.0 c.in-Some.ensures.passed e))

pub terms-smaller : goal.terms-smaller
terms-smaller c = omega (arith, c.in-Some.ensures.shorter, c.in_ok-term.ensures.shorter)

pub terms-preserved : goal.terms-preserved
terms-preserved c =
    let e = c.in_ok-push-2.ensures.added in (
      listed_next c.args.names.now _ _ _ _ _ _ _ c.terms.invariant.0 c.in-Some.ensures.passed c.in_ok-term.ensures.gives
          c.in_ok-term.ensures.shorter e,
      next_some _ _ _ e,
      c.in_ok-term.ensures.source ∙ c.in-Some.ensures.source ∙ c.terms.invariant.2,
      omega (arith, c.in-Some.ensures.shorter, c.in_ok-term.ensures.shorter, c.terms.invariant.3),
    )

pub returns-clause-gives : goal.returns-clause-gives
returns-clause-gives c = listed_done c.args.names.now _ _ _ c.terms.invariant.0 c.in_default.ensures.passed
