use Rattle.std.proofs.Common.{sym, ap, ◌∙◌}
use Rattle.zone_lists.specs.Zones.{ZoneList}
use Rattle.dom_zone.proofs.Calls.{small-some, kept-some, widen-made}
use Rattle.dom_zone.proofs.value.ZoneDomain.widened_by.Goals as goal

pub returns-in-Ok : goal.returns-in-Ok
returns-in-Ok c = widen-made c.self.inside.vars c.next.inside.vars c.self.inside.bounds c.self.inside.kept
    c.next.inside.bounds c.next.inside.kept c.in-Some.bounds c.in-Some-bounds.reached c.in-Ok.kept c.args.self.now
    c.args.next.now c.solved.result c.in-Some.is c.in-Some-bounds.is c.self.view_is c.next.view_is
    (ap (λ (x : ZoneList). x.vars) c.next.view_is ∙ sym c.requires.vars
    ∙ sym (ap (λ (x : ZoneList). x.vars) c.self.view_is))
    (small-some c.self.inside.vars c.self.inside.bounds c.self.inside.kept c.in-Some.bounds c.self.invariant
    c.in-Some.is)
    (kept-some c.self.inside.vars c.self.inside.bounds c.self.inside.kept c.in-Some.bounds c.self.invariant
    c.in-Some.is)
    c.in-Ok.ensures c.requires.leaves c.solved.ensures
