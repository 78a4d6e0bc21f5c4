use Rattle.std.proofs.Common.{◌-◌}
use Rattle.trop_dd.specs.Carried.{found_rows}
use Rattle.trop_dd.proofs.Searching.{IsBetween}
use Rattle.trop_dd.proofs.found.place_of.Given as goal

abbrev pub invariant-loop-low : goal.invariant-loop-low
invariant-loop-low g l = IsBetween g.S.Scalar.ring g.S.PartialEq.eq
    (found_rows l.sides l.fresh l.order) l.row l.low l.high

abbrev pub decreases-loop-low : goal.decreases-loop-low
decreases-loop-low g l = l.high - l.low
