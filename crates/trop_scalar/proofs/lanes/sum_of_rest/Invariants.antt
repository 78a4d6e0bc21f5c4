use Rattle.std.proofs.Common.{map, drop}
use Rattle.trop_theory.specs.Vectors.{dot}
use Rattle.trop_theory.specs.MaxPlus.{max_ring}
use Rattle.trop_scalar.proofs.Sums.{IsSumBefore}
use Rattle.trop_scalar.proofs.lanes.sum_of_rest.Given as goal

abbrev pub invariant-loop-i : goal.invariant-loop-i
invariant-loop-i g l =
    let u = map g.S.Worded.held l.coeffs in
    let v = map g.S.Worded.held l.entries in
    IsSumBefore (dot max_ring u v) (dot max_ring (drop l.i u) (drop l.i v)) l.sum
