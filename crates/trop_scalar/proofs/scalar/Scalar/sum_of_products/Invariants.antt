use Rattle.std.proofs.Common.{◌≡◌, drop}
use Rattle.trop_theory.specs.Vectors.{dot}
use Rattle.trop_scalar.proofs.scalar.Scalar.sum_of_products.Given as goal

abbrev pub invariant-loop-i : goal.invariant-loop-i
invariant-loop-i g l =
    let R = g.Self.Scalar.ring in R.plus l.sum (dot R (drop l.i l.coeffs) (drop l.i l.entries)) ≡
    dot R l.coeffs l.entries
