use Rattle.dom_zone.proofs.Views.{none-lies, both-lie}
use Rattle.dom_zone.proofs.value.ZoneDomain.lies_in.Goals as goal

pub returns-in-None-bounds : goal.returns-in-None-bounds
returns-in-None-bounds c = none-lies c.self.inside.vars c.other.inside.vars c.self.inside.bounds c.self.inside.kept
    c.other.inside.bounds c.other.inside.kept c.in-Some.bounds c.args.self.now c.args.other.now c.in-Some.is
    c.in-None-bounds.is c.self.view_is c.other.view_is c.self.invariant

pub returns-in-Some-bounds : goal.returns-in-Some-bounds
returns-in-Some-bounds c = both-lie c.self.inside.vars c.other.inside.vars c.self.inside.bounds c.self.inside.kept
    c.other.inside.bounds c.other.inside.kept c.in-Some.bounds c.in-Some-bounds.others c.as_slice.result.now
    c.as_slice-in-Some-bounds.result.now c.args.self.now c.args.other.now c.is_stronger.result c.in-Some.is
    c.in-Some-bounds.is c.self.view_is c.other.view_is c.self.invariant c.other.invariant c.requires c.as_slice.ensures
    c.as_slice-in-Some-bounds.ensures c.is_stronger.ensures
