use Rattle.std.proofs.Common.{map, drop}
use Rattle.trop_theory.specs.MaxPlus.{max_ring}
use Rattle.trop_scalar.specs.Sums.{total}
use Rattle.trop_scalar.specs.Words.{word_value}
use Rattle.trop_scalar.proofs.Sums.{IsSumBefore}
use Rattle.trop_scalar.proofs.lanes.sum_of_lanes.Given as goal

abbrev pub invariant-loop-i : goal.invariant-loop-i
invariant-loop-i l =
    IsSumBefore (total max_ring (map word_value l.words)) (total max_ring (drop l.i (map word_value l.words))) l.sum
