use Rattle.dom_core.specs.Views.{spot_of}
use Rattle.dom_iter.proofs.Stepping.{Sum-Ok-vars}
use Rattle.dom_iter.proofs.sum.sum_at.Goals as goal

pub returns-in-Ok-clause-comes : goal.returns-in-Ok-clause-comes
returns-in-Ok-clause-comes g c =
    rw (← c.in-Ok.ensures, ← c.edges.ensures.value, ← c.as_slice-edges.ensures, ← c.vars-vars.ensures.value)
    c.add_edges.ensures

pub returns-in-Ok-clause-vars : goal.returns-in-Ok-clause-vars
returns-in-Ok-clause-vars g c =
    Sum-Ok-vars g.D.Domain.relations c.args.graph.now (spot_of c.args.spot) c.args.values.now c.add_edges.result
    g.met.D.Domain.laws.vars c.requires.values c.vars-vars.ensures.keeps (returns-in-Ok-clause-comes g c)
