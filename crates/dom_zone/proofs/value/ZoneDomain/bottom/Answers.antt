use Rattle.dom_zone.proofs.Views.{bottom-sound}
use Rattle.dom_zone.proofs.value.ZoneDomain.bottom.Goals as goal

pub invariant_of-result : goal.invariant_of-result
invariant_of-result c = bottom-sound c.args.vars c.requires
