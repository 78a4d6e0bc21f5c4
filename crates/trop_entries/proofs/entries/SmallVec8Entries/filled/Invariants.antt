use Rattle.std.proofs.Common.{◌≡◌, ◌≤◌, replicate}
use Rattle.trop_entries.proofs.entries.SmallVec8Entries.filled.Given as goal

-- so many copies as turns, with room for the rest
abbrev pub invariant-loop-k : goal.invariant-loop-k
invariant-loop-k g l = (l.entries.items ≡ replicate l.k l.x) × (l.n ≤ l.entries.capacity)
