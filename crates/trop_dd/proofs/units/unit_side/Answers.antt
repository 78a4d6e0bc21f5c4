use Rattle.trop_dd.proofs.UnitRows.{unit_carried}
use Rattle.trop_dd.proofs.units.unit_side.Goals as goal

pub returns-clause-side : goal.returns-clause-side
returns-clause-side g c = unit_carried g.met.S.Scalar.ring_laws c.args.i c.empty-2.result c.args.row.now
    c.in_ok-copy.field-0 c.with-only.result c.empty.result c.new.result.items c.new-2.result.items c.requires.within
    c.in_ok-copy.ensures.same c.requires.unit c.empty.ensures c.with-only.ensures c.new.ensures.items
    c.new-2.ensures.items
