use Rattle.std.proofs.Common.{take}
use Rattle.trop_pairs.proofs.Summing.{IsSumOf}
use Rattle.trop_pairs.proofs.reading.sum_at.Given as goal

abbrev pub invariant-loop-term : goal.invariant-loop-term
invariant-loop-term g l = IsSumOf g.S.Scalar.ring l.entries (take l.term-index l.terms) l.sum
