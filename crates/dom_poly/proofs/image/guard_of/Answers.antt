use Rattle.std.proofs.Common.{◌≡◌, ◌^◌, ◌+◌, ◌∙◌, subst, arith}
use Rattle.trop_theory.specs.Inequalities.{IsIn}
use Rattle.prog_tree.specs.Terms.{term_of}
use Rattle.cone_reports.specs.Sides.{guard_inequality}
use Rattle.dom_poly.proofs.Moves.{guard_small}
use Rattle.dom_poly.proofs.image.guard_of.Goals as goal

pub guard_inequality-requires-clause-left_fits : goal.guard_inequality-requires-clause-left_fits
guard_inequality-requires-clause-left_fits g c =
    omega (arith, c.requires.op.fits.0, c.n.ensures.value, c.rows.ensures.width)

pub guard_inequality-requires-clause-right_fits : goal.guard_inequality-requires-clause-right_fits
guard_inequality-requires-clause-right_fits g c =
    omega (arith, c.requires.op.fits.1, c.n.ensures.value, c.rows.ensures.width)

pub guard_inequality-requires-clause-left_number : goal.guard_inequality-requires-clause-left_number
guard_inequality-requires-clause-left_number g c = c.requires.op.numbers.0

pub guard_inequality-requires-clause-right_number : goal.guard_inequality-requires-clause-right_number
guard_inequality-requires-clause-right_number g c = c.requires.op.numbers.1

pub returns-clause-guard : goal.returns-clause-guard
returns-clause-guard g c =
    subst (λ m. c.in_ok-ineq.ineq ≡ guard_inequality g.S.Scalar.ring g.S.Scalar.numbering g.S.Scalar.REVERSED m
    (term_of c.args.left.now) (term_of c.args.right.now)) (c.n.ensures.value ∙ c.rows.ensures.width)
    c.in_ok-ineq.ensures.guard

pub returns-clause-inside : goal.returns-clause-inside
returns-clause-inside g c =
    subst (λ m. IsIn m c.in_ok-ineq.ineq) (c.n.ensures.value ∙ c.rows.ensures.width) c.in_ok-ineq.ensures.inside

pub returns-clause-small : goal.returns-clause-small
returns-clause-small g c =
    guard_small g.met.S.Scalar.ring_laws g.met.S.Numeric.numeric_laws c.n.result (2 ^ 31 + 1) (term_of c.args.left.now)
    (term_of c.args.right.now) c.in_ok-ineq.ineq c.requires.op.numbers.0 c.requires.op.numbers.1
    c.in_ok-ineq.ensures.guard
