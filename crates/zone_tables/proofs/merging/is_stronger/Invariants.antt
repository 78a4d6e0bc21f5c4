use Rattle.std.proofs.Common.{◌<◌, ℕ, get_or, None}
use Rattle.zone_tables.specs.Kept.{IsBelow}
use Rattle.zone_tables.proofs.merging.is_stronger.Given as goal

abbrev pub invariant-loop-k : goal.invariant-loop-k
invariant-loop-k l = (j : ℕ) → j < l.k → IsBelow (get_or l.bounds j None) (get_or l.others j None)
