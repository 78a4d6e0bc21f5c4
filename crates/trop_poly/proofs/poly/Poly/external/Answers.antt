use Rattle.std.proofs.Common.{◌≤◌, ◌*◌, ◌-◌, ℕ, length, sym, subst}
use Rattle.std.specs.Prelude.{IfOk, IfErr, OnOk}
use Rattle.trop_theory.specs.Vectors.{rows_size}
use Rattle.trop_theory.specs.Inequalities.{Solves, system_size}
use Rattle.trop_theory.specs.Canonical.{row_limit}
use Rattle.trop_cones.specs.Represents.{Represents}
use Rattle.trop_duality.specs.External.{IsExternal}
use Rattle.trop_duality.specs.PolarStops.{IsPolarStop}
use Rattle.trop_poly.specs.Cones.{InCone}
use Rattle.trop_poly.specs.Sizes.{most_bounded}
use Rattle.trop_poly.specs.Refusals.{IsExternalRefusal}
use Rattle.trop_poly.proofs.poly.Poly.external.Goals as goal

pub bounds_of-requires : goal.bounds_of-requires
bounds_of-requires g c = record {
  kept = c.self.invariant;
  size = subst (λ cone. rows_size g.S.Scalar.ring cone.rows ≤ most_bounded) (sym c.self.view_is) c.requires.size;
}

pub returns-clause-external : goal.returns-clause-external
returns-clause-external g c =
    let R = g.S.Scalar.ring in
    subst (λ cone. IfOk c.bounds_of.result (λ system. IsExternal R cone.n (InCone R cone) system.inequalities))
    c.self.view_is c.bounds_of.ensures.external

pub returns-clause-solutions : goal.returns-clause-solutions
returns-clause-solutions g c =
    let R = g.S.Scalar.ring in
    subst (λ cone. IfOk c.bounds_of.result (λ system.
    Represents R cone.n (Solves R cone.n system.inequalities) cone.rows)) c.self.view_is
    c.bounds_of.ensures.solutions

pub returns-clause-small : goal.returns-clause-small
returns-clause-small g c =
    let R = g.S.Scalar.ring in
    subst (λ cone. IfOk c.bounds_of.result (λ system. system_size R system.inequalities ≤ 4 * rows_size R cone.rows *
    (cone.n - 1))) c.self.view_is c.bounds_of.ensures.small

pub returns-clause-unstopped : goal.returns-clause-unstopped
returns-clause-unstopped g c =
    let R = g.S.Scalar.ring in
    subst (λ cone. OnOk c.bounds_of.result ((i k : ℕ) → IsPolarStop R cone.n cone.rows i k → ⊥)) c.self.view_is
    c.bounds_of.ensures.unstopped

pub returns-clause-refused : goal.returns-clause-refused
returns-clause-refused g c =
    let R = g.S.Scalar.ring in
    subst (λ cone. IfErr c.bounds_of.result (IsExternalRefusal R cone.n cone.rows)) c.self.view_is
    c.bounds_of.ensures.stopped
