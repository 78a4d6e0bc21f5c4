use Rattle.std.proofs.Common.{sym, ap, subst, arith}
use Rattle.std.specs.Prelude.{◌↔◌, IsTrue}
use Rattle.trop_theory.specs.Vectors.{rows_size}
use Rattle.trop_theory.specs.Inequalities.{IsIn, InGuard}
use Rattle.prog_tree.specs.Terms.{term_of}
use Rattle.prog_graph.specs.Views.{op_of}
use Rattle.trop_poly.specs.Cones.{InCone}
use Rattle.cone_reports.specs.Images.{HasPoint}
use Rattle.dom_poly.specs.Views.{IsOpOn}
use Rattle.dom_poly.proofs.Moves.{sets_point, havocs_point, judged_rows}
use Rattle.dom_poly.proofs.image.leaves_point.Goals as goal

pub guard_of-requires : goal.guard_of-requires
guard_of-requires g c =
    record { op = subst (λ o. IsOpOn c.args.cone.now.n (op_of o)) c.in-Guard.is c.requires.op }

pub guard_has_point-requires-clause-inside : goal.guard_has_point-requires-clause-inside
guard_has_point-requires-clause-inside g c =
    subst (λ m. IsIn m c.in_ok-ineq-in-Guard.ineq) (sym c.rows-rows.ensures.width) c.in_ok-ineq-in-Guard.ensures.inside

pub guard_has_point-requires-clause-sizes : goal.guard_has_point-requires-clause-sizes
guard_has_point-requires-clause-sizes g c = omega (
  arith,
  ap (rows_size g.S.Scalar.ring) c.rows-rows.ensures.rows,
  c.in_ok-ineq-in-Guard.ensures.small,
  c.requires.small,
)

pub returns-in_ok-ineq-in-Guard : goal.returns-in_ok-ineq-in-Guard
returns-in_ok-ineq-in-Guard g c =
    let R = g.S.Scalar.ring in
    let b = c.guard_has_point.result in
    let cone = c.args.cone.now in
    rw c.in-Guard.is
    (subst (λ q. IsTrue b ↔ HasPoint R (InGuard R (InCone R cone) q)) c.in_ok-ineq-in-Guard.ensures.guard
    (judged_rows R cone _ _ b (λ C. InGuard R C c.in_ok-ineq-in-Guard.ineq) c.rows-rows.ensures.width
    c.rows-rows.ensures.rows c.guard_has_point.ensures))

pub returns-in-Skip : goal.returns-in-Skip
returns-in-Skip g c =
    rw c.in-Skip.is
    (judged_rows g.S.Scalar.ring c.args.cone.now _ _ c.has_point.result (λ C. C) c.rows-rows.ensures.width
    c.rows-rows.ensures.rows c.has_point.ensures)

pub returns-in-Set : goal.returns-in-Set
returns-in-Set g c =
    let R = g.S.Scalar.ring in
    let cone = c.args.cone.now in
    let told = judged_rows R cone _ _ c.has_point-in-Set.result (λ C. C) c.rows-rows.ensures.width
    c.rows-rows.ensures.rows c.has_point-in-Set.ensures in
    let fits = subst (λ o. IsOpOn cone.n (op_of o)) c.in-Set.is c.requires.op in
    let point = sets_point R g.S.Scalar.numbering g.S.Scalar.REVERSED cone.n (InCone R cone) c.in-Set.var
    (term_of c.in-Set.value) fits.fits.0.0 in
    rw c.in-Set.is (λ t. point.0 (told.0 t), λ h. told.1 (point.1 h))

pub returns-in-Havoc : goal.returns-in-Havoc
returns-in-Havoc g c =
    let R = g.S.Scalar.ring in
    let cone = c.args.cone.now in
    let point = havocs_point R g.S.Scalar.numbering g.S.Scalar.REVERSED cone.n (InCone R cone) c.in-Havoc.var
    (subst (λ o. IsOpOn cone.n (op_of o)) c.in-Havoc.is c.requires.op).fits.0 in
    let told = judged_rows R cone _ _ c.has_point-in-Havoc.result (λ C. C) c.rows-rows.ensures.width
    c.rows-rows.ensures.rows c.has_point-in-Havoc.ensures in
    rw c.in-Havoc.is (λ t. point.0 (told.0 t), λ h. told.1 (point.1 h))
