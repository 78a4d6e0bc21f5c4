use Rattle.trop_tangent.proofs.Judging.{reached_none, reached_some, types_from_reached, extreme_where_some}
use Rattle.trop_tangent.proofs.criterion.types_in.Goals as goal

pub returns-in-None-clause-types : goal.returns-in-None-clause-types
returns-in-None-clause-types g c =
    types_from_reached g.met.S.Scalar.ring_laws _ _ _ c.fill.ensures.wide c.requires.solves _
    (reached_none g.met.S.Scalar.ring_laws _ _ _ c.fill.ensures.wide c.requires.solves c.fill.new.hyper
    c.in_ok-fill.ensures.edges c.in_ok-fill.ensures.nodes _ c.in-None.ensures.found c.empty.ensures)

pub returns-in-None-clause-extreme : goal.returns-in-None-clause-extreme
returns-in-None-clause-extreme g c =
    extreme_where_some g.met.S.Scalar.ring_laws _ _ _ c.fill.ensures.wide c.requires.solves _
    (reached_none g.met.S.Scalar.ring_laws _ _ _ c.fill.ensures.wide c.requires.solves c.fill.new.hyper
    c.in_ok-fill.ensures.edges c.in_ok-fill.ensures.nodes _ c.in-None.ensures.found c.empty.ensures)

pub returns-in-Some-clause-types : goal.returns-in-Some-clause-types
returns-in-Some-clause-types g c =
    types_from_reached g.met.S.Scalar.ring_laws _ _ _ c.fill.ensures.wide c.requires.solves _
    (reached_some g.met.S.Scalar.ring_laws _ _ _ c.fill.ensures.wide c.requires.solves c.fill.new.hyper
    c.in_ok-fill.ensures.edges c.in_ok-fill.ensures.nodes _ c.in-Some.ensures.found.1)

pub returns-in-Some-clause-extreme : goal.returns-in-Some-clause-extreme
returns-in-Some-clause-extreme g c =
    extreme_where_some g.met.S.Scalar.ring_laws _ _ _ c.fill.ensures.wide c.requires.solves _
    (reached_some g.met.S.Scalar.ring_laws _ _ _ c.fill.ensures.wide c.requires.solves c.fill.new.hyper
    c.in_ok-fill.ensures.edges c.in_ok-fill.ensures.nodes _ c.in-Some.ensures.found.1)
