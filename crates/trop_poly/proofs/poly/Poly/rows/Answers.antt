use Rattle.std.proofs.Common.{◌≤◌, length, subst}
use Rattle.trop_theory.specs.Vectors.{AreWide}
use Rattle.trop_theory.specs.Canonical.{IsCanonical, row_limit}
use Rattle.trop_poly.specs.Cones.{InCone}
use Rattle.trop_poly.proofs.poly.Poly.rows.Goals as goal

pub returns-clause-canonical : goal.returns-clause-canonical
returns-clause-canonical g c = subst (λ cone. IsCanonical g.S.Scalar.ring (InCone g.S.Scalar.ring cone) cone.rows)
    c.self.view_is c.self.invariant.canonical

pub returns-clause-few : goal.returns-clause-few
returns-clause-few g c = subst (λ cone. length cone.rows ≤ row_limit) c.self.view_is c.self.invariant.within

pub returns-clause-wide : goal.returns-clause-wide
returns-clause-wide g c = subst (λ cone. AreWide cone.n cone.rows) c.self.view_is c.as_slice-slice.ensures.wide

pub returns-clause-at_least : goal.returns-clause-at_least
returns-clause-at_least g c = subst (λ cone. 1 ≤ cone.n) c.self.view_is c.as_slice-slice.ensures.at_least

pub returns-clause-at_most : goal.returns-clause-at_most
returns-clause-at_most g c = subst (λ cone. cone.n ≤ 64) c.self.view_is c.as_slice-slice.ensures.at_most
