use Rattle.dom_zone.proofs.Embedded.{states-told}
use Rattle.dom_zone.proofs.value.ZoneDomain.embed.Goals as goal

pub returns-in-Some-clause-states : goal.returns-in-Some-clause-states
returns-in-Some-clause-states c = states-told c.self.inside.vars c.self.inside.bounds c.self.inside.kept
    c.in-Some.bounds
    c.args.self.now c.system_of.result c.in-Some.is c.self.view_is c.system_of.ensures.list
