use Rattle.std.proofs.lemmas.Bool.{OnFalse_at}
use Rattle.dom_zone.proofs.Views.{fitted-sound}
use Rattle.dom_zone.proofs.value.ZoneDomain.fitted.Goals as goal

pub invariant_of-result : goal.invariant_of-result
invariant_of-result c = fitted-sound c.args.vars c.args.made c.requires.few c.requires.closed
    (OnFalse_at c.if-has_large_if.false c.has_large_if.ensures.no)
