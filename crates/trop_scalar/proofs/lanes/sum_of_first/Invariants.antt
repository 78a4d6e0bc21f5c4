use Rattle.std.proofs.Common.{◌*◌, map, w64}
use mir.Val.{to_z}
use Rattle.trop_scalar.proofs.Sums.{AreSummed}
use Rattle.trop_scalar.proofs.lanes.sum_of_first.Given as goal

abbrev pub invariant-loop-k : goal.invariant-loop-k
invariant-loop-k g l =
    AreSummed (map g.S.Worded.held l.coeffs) (map g.S.Worded.held l.entries) (l.k * 8) (map (to_z w64) l.best)
