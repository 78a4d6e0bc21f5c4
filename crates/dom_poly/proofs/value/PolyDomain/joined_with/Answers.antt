use Rattle.std.proofs.Common.{suc, sym, ap, ◌∙◌, arith}
use Rattle.trop_theory.specs.Vectors.{rows_size}
use Rattle.trop_cones.specs.Sets.{InJoin}
use Rattle.trop_poly.specs.Cones.{InCone}
use Rattle.dom_poly.proofs.Fitted.{cone_for, join_answered}
use Rattle.dom_poly.proofs.value.PolyDomain.joined_with.Goals as goal

pub join-requires-clause-width : goal.join-requires-clause-width
join-requires-clause-width g c = c.poly.ensures.width ∙ ap suc c.requires ∙ sym c.poly-2.ensures.width

pub join-requires-clause-size : goal.join-requires-clause-size
join-requires-clause-size g c =
    omega (arith, ap (rows_size g.S.Scalar.ring) c.poly.ensures.rows, c.poly.ensures.small)

pub join-requires-clause-other_size : goal.join-requires-clause-other_size
join-requires-clause-other_size g c =
    omega (arith, ap (rows_size g.S.Scalar.ring) c.poly-2.ensures.rows, c.poly-2.ensures.small)

pub returns : goal.returns
returns g c =
    let R = g.S.Scalar.ring in
    let cone = c.poly.result.now in
    let second = c.poly-2.result.now in
    join_answered g.met.S.Scalar.ring_laws g.S.Scalar.numbering g.S.Scalar.REVERSED c.args.self.now c.args.other.now
    cone second c.join.result c.fitted_from.result c.poly.ensures.width c.poly.ensures.rows c.poly-2.ensures.width
    c.poly-2.ensures.rows c.poly.ensures.value c.poly-2.ensures.value c.requires
    (cone_for R cone.n 0 (InJoin R (InCone R cone) (InCone R second)) c.join.result c.join.ensures.width
    c.join.ensures.holds c.join.ensures.refused) c.fitted_from.ensures
