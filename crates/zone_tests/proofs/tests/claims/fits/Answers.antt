use Rattle.std.proofs.Common.{◌≤◌, ◌∙◌, ◌^◌}
use Rattle.std.proofs.lemmas.Bool.{OnTrue_at, OnTrue_from}
use Rattle.prog_theory.specs.Within.{IsNumberWithin}
use Rattle.zone_tests.proofs.Sides.{mapped}
use Rattle.zone_tests.proofs.tests.claims.fits.Goals as goal

pub returns-clause-coordinates : goal.returns-clause-coordinates
returns-clause-coordinates c =
    OnTrue_from c.stand.result _ (λ e.
    mapped (λ t. t.coord ≤ c.args.vars) c.as_slice.result.now c.args.side.now.terms
    (c.as_slice.ensures ∙ c.terms.ensures.value) (λ i d lt. (OnTrue_at e c.stand.ensures i d lt).0))

pub returns-clause-numbers : goal.returns-clause-numbers
returns-clause-numbers c =
    OnTrue_from c.stand.result _ (λ e.
    mapped (IsNumberWithin (2 ^ 31)) c.as_slice.result.now c.args.side.now.terms
    (c.as_slice.ensures ∙ c.terms.ensures.value) (λ i d lt. (OnTrue_at e c.stand.ensures i d lt).1))
