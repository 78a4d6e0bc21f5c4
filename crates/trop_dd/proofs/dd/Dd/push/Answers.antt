use Rattle.std.proofs.Common.{◌≡◌, true, refl, sym, ap, ◌∙◌, subst}
use Rattle.std.specs.Prelude.{MatchOption}
use Rattle.trop_theory.specs.Inequalities.{IsIn}
use Rattle.trop_theory.specs.Vectors.{AreWide}
use Rattle.trop_dd.specs.Description.{CountsNew}
use Rattle.trop_dd.proofs.Pushes.{sound_after, described_wide}
use Rattle.trop_dd.proofs.dd.Dd.push.Goals as goal

pub from_rows-requires-clause-wide : goal.from_rows-requires-clause-wide
from_rows-requires-clause-wide g c =
    let old = c.self.inside.conversion in
    let new = c.narrowed.new.self in
    subst (AreWide c.n-n.result) (sym (subst (λ o. MatchOption o (true ≡ true → new.rows ≡ old.rows)
    (λ rows. rows.items ≡ new.rows)) c.in-Some.is c.in_ok-found.ensures.copies))
    (described_wide g.S.Scalar.ring new.n c.n-n.result new.system new.rows
    (c.n-n.ensures.value ∙ c.self.invariant.0 ∙ sym c.narrowed.ensures.width) c.in_ok-found.ensures.described)

pub invariant_of-self-in-None : goal.invariant_of-self-in-None
invariant_of-self-in-None g c =
    let old = c.self.inside.conversion in
    let new = c.narrowed.new.self in (
      c.self.invariant.0 ∙ sym c.narrowed.ensures.width,
      c.self.invariant.1 ∙ sym (subst (λ o. MatchOption o (true ≡ true → new.rows ≡ old.rows)
          (λ rows. rows.items ≡ new.rows)) c.in-None.is c.in_ok-found.ensures.copies refl),
      sound_after g.S.Scalar.ring old.n new.n old.system new.system c.args.ineq old.rows new.rows c.self.invariant.2
          (subst (λ n. IsIn n c.args.ineq) (sym (ap (λ dd. dd.n) c.self.view_is)) c.requires.wide) c.requires.size
          c.narrowed.ensures.width c.in_ok-found.ensures.system c.in_ok-found.ensures.described,
    )

pub invariant_of-self-in-Some : goal.invariant_of-self-in-Some
invariant_of-self-in-Some g c =
    let old = c.self.inside.conversion in
    let new = c.narrowed.new.self in (
      c.from_rows.ensures.width ∙ c.n-n.ensures.value ∙ c.self.invariant.0 ∙ sym c.narrowed.ensures.width,
      c.from_rows.ensures.rows ∙ subst (λ o. MatchOption o (true ≡ true → new.rows ≡ old.rows)
          (λ rows. rows.items ≡ new.rows)) c.in-Some.is c.in_ok-found.ensures.copies,
      sound_after g.S.Scalar.ring old.n new.n old.system new.system c.args.ineq old.rows new.rows c.self.invariant.2
          (subst (λ n. IsIn n c.args.ineq) (sym (ap (λ dd. dd.n) c.self.view_is)) c.requires.wide) c.requires.size
          c.narrowed.ensures.width c.in_ok-found.ensures.system c.in_ok-found.ensures.described,
    )

pub returns-in-None-clause-counts : goal.returns-in-None-clause-counts
returns-in-None-clause-counts g c = subst (λ dd. CountsNew g.S.Scalar.ring dd.rows c.narrowed.new.self.rows
    c.args.looks.now c.narrowed.new.looks) c.self.view_is c.in_ok-found.ensures.counts

pub returns-in-Some-clause-counts : goal.returns-in-Some-clause-counts
returns-in-Some-clause-counts g c = subst (λ dd. CountsNew g.S.Scalar.ring dd.rows c.narrowed.new.self.rows
    c.args.looks.now c.narrowed.new.looks) c.self.view_is c.in_ok-found.ensures.counts
