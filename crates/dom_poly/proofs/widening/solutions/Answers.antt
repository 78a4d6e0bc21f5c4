use Rattle.std.proofs.Common.{◌≤◌, sym, subst}
use Rattle.dom_poly.specs.Lists.{IsSolvedFor}
use Rattle.std.specs.Prelude.{Err}
use Rattle.trop_cones.specs.Represents.{Represents}
use Rattle.trop_theory.specs.Inequalities.{Solves}
use Rattle.trop_row.specs.Lists.{InequalityList}
use Rattle.dom_poly.proofs.Widened.{solved_for, solved_refused}
use Rattle.dom_poly.proofs.widening.solutions.Goals as goal

pub fitted_with-requires-clause-solutions : goal.fitted_with-requires-clause-solutions
fitted_with-requires-clause-solutions g c =
    let R = g.S.Scalar.ring in
    subst (λ m. Represents R m (Solves R m c.args.list.inequalities) c.in-Ok.cone.rows) (sym c.in-Ok.ensures.width)
    c.in-Ok.ensures.holds

pub returns-in-Ok : goal.returns-in-Ok
returns-in-Ok g c =
    let least = subst (λ (l : InequalityList _). 1 ≤ l.n) c.list.view_is c.list.invariant.0 in
    solved_for g.met.S.Scalar.ring_laws c.args.list c.in-Ok.cone c.fitted_with.result c.in-Ok.ensures.width least
    c.in-Ok.ensures.holds c.in-Ok.ensures.unstopped c.fitted_with.ensures

pub returns-in-Err : goal.returns-in-Err
returns-in-Err g c =
    subst (λ err. IsSolvedFor g.S.Scalar.ring c.args.list.n c.args.list.inequalities (Err err))
    (sym c.refused_part.ensures)
    (solved_refused g.met.S.Scalar.ring_laws c.args.list.n c.args.list.inequalities c.in-Err.err
    c.in-Err.ensures.refused)
