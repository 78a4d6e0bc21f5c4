use Rattle.std.proofs.Common.{sym, ap, ◌∙◌}
use Rattle.zone_lists.specs.Zones.{ZoneList}
use Rattle.dom_zone.proofs.Calls.{join-made}
use Rattle.dom_zone.proofs.value.ZoneDomain.joined_with.Goals as goal

pub returns-in-Ok : goal.returns-in-Ok
returns-in-Ok c = join-made c.self.inside.vars c.other.inside.vars c.self.inside.bounds c.self.inside.kept
    c.other.inside.bounds c.other.inside.kept c.args.self.now c.args.other.now c.in-Ok.made c.fitted.result
    c.self.view_is c.other.view_is
    (ap (λ (x : ZoneList). x.vars) c.other.view_is ∙ sym c.requires
    ∙ sym (ap (λ (x : ZoneList). x.vars) c.self.view_is)) c.in-Ok.ensures c.fitted.ensures
