use Rattle.std.proofs.Common.{◌≡◌, true, sym, subst}
use Rattle.std.specs.Prelude.{◌↔◌}
use Rattle.std.proofs.lemmas.Option.{get_or_from_slice_get}
use Rattle.prog_tree.specs.Claims.{claim_of}
use Rattle.dom_core.specs.Claims.{FitsClaim}
use Rattle.dom_verdicts.specs.Claims.{IsVerdictOn, value_at}
use Rattle.dom_verdicts.proofs.Added.{AreAdded-one}
use Rattle.dom_verdicts.proofs.asserts.push_verdict.Goals as goal

pub proves-proved-requires-clause-suits : goal.proves-proved-requires-clause-suits
proves-proved-requires-clause-suits g c = c.requires.judgeable.words

pub proves-proved-requires-clause-fits : goal.proves-proved-requires-clause-fits
proves-proved-requires-clause-fits g c =
    let v = c.value_of.result.now in
    let is = get_or_from_slice_get c.args.values.now c.args.point v v c.value_of.ensures in
    subst (λ n. FitsClaim n (claim_of c.args.claim.now))
    (sym (subst (λ w. g.D.Domain.relations.vars w ≡ c.args.vars) is
    (c.requires.vars c.args.point v c.requires.inside)))
    c.requires.judgeable.fits

pub returns : goal.returns
returns g c =
    let D = g.D.Domain.relations in
    let is = get_or_from_slice_get c.args.values.now c.args.point c.value_of.result.now (D.bottom c.args.vars)
    c.value_of.ensures in
    AreAdded-one (IsVerdictOn g.D.Domain.proven (value_at D c.args.vars c.args.values.now))
    (record { point = c.args.point; claim = claim_of c.args.claim.now }) c.proves-proved.result _ _
    c.in_ok-push.ensures.items
    (subst (λ v. (c.proves-proved.result ≡ true) ↔ g.D.Domain.proven (claim_of c.args.claim.now) v) (sym is)
    c.proves-proved.ensures)
