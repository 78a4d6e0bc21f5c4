use Rattle.std.proofs.Common.{◌∙◌}
use Rattle.dom_zone.proofs.Keeping.{left-if}
use Rattle.dom_zone.proofs.widening.left_bounds.Goals as goal

pub returns : goal.returns
returns c = left-if c.args.vars c.args.bounds.now c.args.reached.now c.as_slice.result.now c.as_slice-2.result.now
    c.args.kept.now c.kept_table.result c.requires.sound c.requires.kept c.requires.reached
    (c.as_slice.ensures ∙ c.first_bounds-first.ensures) c.as_slice-2.ensures c.kept_table.ensures
