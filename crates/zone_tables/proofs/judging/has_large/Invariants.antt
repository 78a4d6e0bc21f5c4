use Rattle.std.proofs.Common.{◌<◌, ◌^◌, ℕ, get_or, None}
use Rattle.zone_tables.specs.Sizes.{IsWithin}
use Rattle.zone_tables.proofs.judging.has_large.Given as goal

abbrev pub invariant-loop-k : goal.invariant-loop-k
invariant-loop-k l = (j : ℕ) → j < l.k → IsWithin (2 ^ 40) (get_or l.bounds j None)
