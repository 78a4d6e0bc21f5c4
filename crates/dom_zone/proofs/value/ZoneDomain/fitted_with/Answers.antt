use Rattle.std.proofs.Common.{subst, ◌^◌}
use Rattle.std.proofs.lemmas.Bool.{OnFalse_at}
use Rattle.zone_tables.specs.Sizes.{AreWithin}
use Rattle.dom_zone.proofs.Views.{kept-sound}
use Rattle.dom_zone.proofs.value.ZoneDomain.fitted_with.Goals as goal

pub invariant_of-result : goal.invariant_of-result
invariant_of-result c = kept-sound c.args.vars c.args.bounds c.args.kept c.requires.few c.requires.basis
    c.requires.closing (subst (AreWithin (2 ^ 40)) c.as_slice.ensures
    (OnFalse_at c.if-has_large.false c.has_large.ensures.no))
