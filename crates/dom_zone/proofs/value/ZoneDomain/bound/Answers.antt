use Rattle.dom_zone.proofs.Calls.{small-some, bound-greatest}
use Rattle.dom_zone.proofs.value.ZoneDomain.bound.Goals as goal

pub returns-in-Some-clause-greatest : goal.returns-in-Some-clause-greatest
returns-in-Some-clause-greatest c = bound-greatest c.self.inside.vars c.self.inside.bounds c.self.inside.kept
    c.in-Some.bounds c.args.self.now c.in-Some.is c.self.view_is
    (small-some c.self.inside.vars c.self.inside.bounds c.self.inside.kept c.in-Some.bounds c.self.invariant
    c.in-Some.is)
    c.args.i c.args.j c.requires.row c.requires.column c.requires.apart c.number_at.result c.number_at.ensures.bound
