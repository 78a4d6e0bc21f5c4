use Rattle.std.proofs.Common.{add-one}
use Rattle.dom_zone.proofs.Views.{top-sound, top-is}
use Rattle.dom_zone.proofs.value.ZoneDomain.top.Goals as goal

pub invariant_of-result : goal.invariant_of-result
invariant_of-result c = top-sound c.args.vars _ c.in_ok-bounds.bounds c.requires
    (add-one c.args.vars) c.in_ok-bounds.ensures

pub returns : goal.returns
returns c = top-is c.args.vars _ c.in_ok-bounds.bounds (add-one c.args.vars) c.in_ok-bounds.ensures
