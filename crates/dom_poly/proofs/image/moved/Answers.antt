use Rattle.std.proofs.Common.{◌≡◌, ◌≤◌, ◌+◌, ◌^◌, sym, ap, ◌∙◌, subst, arith, refl}
use Rattle.std.specs.Prelude.{Ok, unsigned_abs}
use Rattle.trop_theory.specs.Inequalities.{InGuard}
use Rattle.prog_tree.specs.Terms.{term_of}
use Rattle.prog_graph.specs.Views.{op_of}
use Rattle.trop_cones.specs.Sets.{InForget, InAssign}
use Rattle.trop_cones.proofs.Represented.{Represents-canonical}
use Rattle.trop_poly.specs.Cones.{InCone}
use Rattle.cone_reports.specs.Images.{InMoved}
use Rattle.dom_poly.specs.Views.{IsOpOn}
use Rattle.dom_poly.specs.Answers.{IsConeFor}
use Rattle.dom_poly.proofs.Fitted.{cone_for}
use Rattle.dom_poly.proofs.Moves.{number_small, number_kept, skipped}
use Rattle.dom_poly.proofs.image.moved.Goals as goal

pub guard_of-requires : goal.guard_of-requires
guard_of-requires g c =
    record { op = subst (λ o. IsOpOn c.args.cone.now.n (op_of o)) c.in-Guard.is c.requires.op }

pub of_number-requires : goal.of_number-requires
of_number-requires g c =
    let small : unsigned_abs c.in-Set.value.add ≤ 2 ^ 31 + 1 =
    (subst (λ o. IsOpOn c.args.cone.now.n (op_of o)) c.in-Set.is c.requires.op).numbers.1 in
    omega (arith, small, ap unsigned_abs (number_kept c.in-Set.value.add small))

pub assign-requires-clause-within : goal.assign-requires-clause-within
assign-requires-clause-within g c =
    (subst (λ o. IsOpOn c.args.cone.now.n (op_of o)) c.in-Set.is c.requires.op).fits.0.1

pub assign-requires-clause-inside : goal.assign-requires-clause-inside
assign-requires-clause-inside g c =
    (subst (λ o. IsOpOn c.args.cone.now.n (op_of o)) c.in-Set.is c.requires.op).fits.1

pub assign-requires-clause-size : goal.assign-requires-clause-size
assign-requires-clause-size g c =
    let R = g.S.Scalar.ring in
    let small : unsigned_abs c.in-Set.value.add ≤ 2 ^ 31 + 1 =
    (subst (λ o. IsOpOn c.args.cone.now.n (op_of o)) c.in-Set.is c.requires.op).numbers.1 in
    omega (
      arith,
      ap R.size c.of_number.ensures,
      ap (λ z. R.size (g.S.Scalar.numbering.of z)) (number_kept c.in-Set.value.add small),
      number_small g.met.S.Scalar.ring_laws g.met.S.Numeric.numeric_laws c.args.cone.now.n (2 ^ 31 + 1)
          (term_of c.in-Set.value) small,
      c.requires.small,
    )

pub forget-requires-clause-within : goal.forget-requires-clause-within
forget-requires-clause-within g c =
    (subst (λ o. IsOpOn c.args.cone.now.n (op_of o)) c.in-Havoc.is c.requires.op).fits.1

pub guard-requires-clause-inside : goal.guard-requires-clause-inside
guard-requires-clause-inside g c = c.in_ok-ineq-in-Guard.ensures.inside

pub guard-requires-clause-coefficients : goal.guard-requires-clause-coefficients
guard-requires-clause-coefficients g c = omega (arith, c.in_ok-ineq-in-Guard.ensures.small)

pub returns-in_ok-copy-in-Skip : goal.returns-in_ok-copy-in-Skip
returns-in_ok-copy-in-Skip g c =
    let R = g.S.Scalar.ring in
    let cone = c.args.cone.now in
    let e = c.rows-rows.ensures in
    subst (λ o. IsConeFor R cone.n (InMoved R g.S.Scalar.numbering g.S.Scalar.REVERSED cone.n (op_of o) (InCone R cone))
    (Ok c.in_ok-copy-in-Skip.field-0)) (sym c.in-Skip.is)
    (skipped R cone.n cone c.in_ok-copy-in-Skip.field-0 c.in_ok-copy-in-Skip.ensures.same refl
    (Represents-canonical g.met.S.Scalar.ring_laws cone.n (InCone R cone) cone.rows cone.rows e.wide
    (λ x. (λ h. h, λ h. h)) e.canonical e.few))

pub returns-in-Set : goal.returns-in-Set
returns-in-Set g c =
    let R = g.S.Scalar.ring in
    let N = g.S.Scalar.numbering in
    let C = InCone R c.args.cone.now in
    let n = c.args.cone.now.n in
    let t = term_of c.in-Set.value in
    let same = number_kept c.in-Set.value.add (subst (λ o. IsOpOn n (op_of o)) c.in-Set.is c.requires.op).numbers.1 in
    let made : IsConeFor R n (InAssign R C c.in-Set.var t.coord c.of_number.result) c.assign.result =
    cone_for R n 0 (InAssign R C c.in-Set.var t.coord c.of_number.result) c.assign.result c.assign.ensures.width
    c.assign.ensures.holds c.assign.ensures.refused in
    subst (λ o. IsConeFor R n (InMoved R N g.S.Scalar.REVERSED n (op_of o) C) c.assign.result) (sym c.in-Set.is)
    (subst (λ k. IsConeFor R n (InAssign R C c.in-Set.var t.coord k) c.assign.result)
    (c.of_number.ensures ∙ ap N.of same) made)

pub returns-in-Havoc : goal.returns-in-Havoc
returns-in-Havoc g c =
    let R = g.S.Scalar.ring in
    let n = c.args.cone.now.n in
    let C = InCone R c.args.cone.now in
    subst (λ o. IsConeFor R n (InMoved R g.S.Scalar.numbering g.S.Scalar.REVERSED n (op_of o) C) c.forget.result)
    (sym c.in-Havoc.is) (cone_for R n 0 (InForget R C c.in-Havoc.var) c.forget.result c.forget.ensures.width
    c.forget.ensures.holds c.forget.ensures.refused)

pub returns-in_ok-ineq-in-Guard : goal.returns-in_ok-ineq-in-Guard
returns-in_ok-ineq-in-Guard g c =
    let R = g.S.Scalar.ring in
    let C = InCone R c.args.cone.now in
    let n = c.args.cone.now.n in
    subst (λ o. IsConeFor R n (InMoved R g.S.Scalar.numbering g.S.Scalar.REVERSED n (op_of o) C) c.guard.result)
    (sym c.in-Guard.is)
    (subst (λ q. IsConeFor R n (InGuard R C q) c.guard.result) c.in_ok-ineq-in-Guard.ensures.guard
    (cone_for R n 1 (InGuard R C c.in_ok-ineq-in-Guard.ineq) c.guard.result c.guard.ensures.width c.guard.ensures.holds
    c.guard.ensures.refused))
