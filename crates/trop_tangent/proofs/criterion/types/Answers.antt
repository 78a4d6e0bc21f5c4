use Rattle.std.proofs.Common.{◌<◌, length, sym, subst}
use Rattle.std.specs.Prelude.{◌↔◌}
use Rattle.trop_criterion.specs.Hypergraphs.{Has}
use Rattle.trop_criterion.proofs.Reaching.{IsReachedFromAll}
use Rattle.trop_tangent.proofs.Attained.{IsFinite}
use Rattle.trop_tangent.proofs.Judging.{types_from_reached, extreme_where_some, some_finite}
use Rattle.trop_tangent.proofs.criterion.types.Goals as goal

pub returns-clause-types : goal.returns-clause-types
returns-clause-types g c =
    types_from_reached g.met.S.Scalar.ring_laws _ _ _ c.as_slice.ensures.wide c.requires.solves _
    (λ t. subst (λ s. Has c.reached_from_all.result t ↔ IsReachedFromAll g.S.Scalar.ring s c.args.row.now t)
    c.as_slice.ensures.inequalities (c.reached_from_all.ensures.reached t))

pub returns-clause-extreme : goal.returns-clause-extreme
returns-clause-extreme g c =
    extreme_where_some g.met.S.Scalar.ring_laws _ _ _ c.as_slice.ensures.wide c.requires.solves _
    (λ t. subst (λ s. Has c.reached_from_all.result t ↔ IsReachedFromAll g.S.Scalar.ring s c.args.row.now t)
    c.as_slice.ensures.inequalities (c.reached_from_all.ensures.reached t))

pub returns-clause-at_least : goal.returns-clause-at_least
returns-clause-at_least g c f l =
    let u = some_finite g.met.S.Scalar.ring_laws c.args.system.now.n c.args.system.now.inequalities c.args.row.now
    c.as_slice.ensures.wide c.requires.solves f in
    c.reached_from_all.ensures.at_least u.0 ((c.finite_entries.ensures u.0).1
    (subst (λ x. IsFinite g.S.Scalar.ring x u.0) (sym c.as_slice-2.ensures.entries) u.1))
    (subst (λ s. 0 < length s) (sym c.as_slice.ensures.inequalities) l)
