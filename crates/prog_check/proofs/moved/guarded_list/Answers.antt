use Rattle.std.proofs.Common.{◌^◌, ◌+◌, arith}
use Rattle.prog_tree.specs.Terms.{term_of}
use Rattle.prog_check.proofs.Lists.{guard_small}
use Rattle.prog_check.proofs.moved.guarded_list.Goals as goal

pub guard_inequality-requires-clause-left_fits : goal.guard_inequality-requires-clause-left_fits
guard_inequality-requires-clause-left_fits g c =
    omega (arith, c.requires.left_fits, c.n.ensures.value, c.n.ensures.at_least)

pub guard_inequality-requires-clause-right_fits : goal.guard_inequality-requires-clause-right_fits
guard_inequality-requires-clause-right_fits g c =
    omega (arith, c.requires.right_fits, c.n.ensures.value, c.n.ensures.at_least)

pub step_all-requires-clause-size : goal.step_all-requires-clause-size
step_all-requires-clause-size g c =
    omega (
      arith,
      guard_small g.met.S.Scalar.ring_laws g.met.S.Numeric.numeric_laws c.n.result (2 ^ 31 + 1)
          (term_of c.args.left.now) (term_of c.args.right.now) c.in_ok-ineq.ineq c.requires.left_number
          c.requires.right_number c.in_ok-ineq.ensures.guard,
    )
