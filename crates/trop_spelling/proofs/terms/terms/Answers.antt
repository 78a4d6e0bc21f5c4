use Rattle.std.proofs.Common.{◌∙◌, refl}
use Rattle.std.proofs.lemmas.Result.{err_from_is_err_and}
use Rattle.trop_reading.proofs.Loops.{separated_failed, separated_more, separated_done, separated_shorter}
use Rattle.trop_spelling.specs.Inequalities.{terms_at}
use Rattle.trop_spelling.proofs.InequalityLaws.{terms_parts}
use Rattle.trop_spelling.proofs.terms.terms.Goals as goal

pub terms-init : goal.terms-init
unfolding terms_at
terms-init g c = record { reading = rw c.in_ok-terms.ensures.items refl; source = refl }

pub returns-in_err-more-clause-gives : goal.returns-in_err-more-clause-gives
returns-in_err-more-clause-gives g c =
    let p = err_from_is_err_and c.from_residual-in_err-more.result c.from_residual-in_err-more.ensures.1 in
    rw (p.1, p.2) (separated_failed (terms_parts g.S.Scalar.ring g.S.Scalar.numbering c.args.bound c.args.names.now
    g.S.Spelling.KIND) _ _ _ _ c.in_err-more.ensures.gives c.terms.invariant.reading)

pub returns-then-not-more-clause-gives : goal.returns-then-not-more-clause-gives
returns-then-not-more-clause-gives g c =
    separated_done (terms_parts g.S.Scalar.ring g.S.Scalar.numbering c.args.bound c.args.names.now g.S.Spelling.KIND)
    _ _ _ _ _ _ (search c.if-not-more.true) c.in_ok-more.ensures.gives c.terms.invariant.reading

pub terms-preserved : goal.terms-preserved
terms-preserved g c = record {
  reading = separated_more (terms_parts g.S.Scalar.ring g.S.Scalar.numbering c.args.bound c.args.names.now
      g.S.Spelling.KIND) _ _ _ _ _ _ (search c.if-not-more.false) c.in_ok-more.ensures.gives c.terms.invariant.reading;
  source = c.in_ok-more.ensures.source ∙ c.terms.invariant.source;
}

pub terms-smaller : goal.terms-smaller
terms-smaller g c = separated_shorter (terms_parts g.S.Scalar.ring g.S.Scalar.numbering c.args.bound c.args.names.now
    g.S.Spelling.KIND) _ _ _ _ c.in_ok-more.ensures.gives
