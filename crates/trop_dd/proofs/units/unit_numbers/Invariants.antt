use Rattle.std.proofs.Common.{◌≡◌, ◌<◌, ℕ, length, get_or}
use Rattle.trop_dd.proofs.units.unit_numbers.Given as goal

abbrev pub invariant-loop-k : goal.invariant-loop-k
invariant-loop-k l = record {
  count : length l.order.items ≡ l.k;
  same : (j : ℕ) → j < l.k → get_or l.order.items j 0 ≡ j;
}
