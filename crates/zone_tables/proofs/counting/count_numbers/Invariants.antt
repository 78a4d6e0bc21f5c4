use Rattle.std.proofs.Common.{◌≡◌}
use Rattle.zone_theory.specs.Width.{cell, total}
use Rattle.zone_tables.specs.Tables.{matrix_of}
use Rattle.zone_tables.proofs.counting.count_numbers.Given as goal

abbrev pub invariant-loop-i : goal.invariant-loop-i
invariant-loop-i l = l.count ≡ total (λ i. total (cell (matrix_of l.side l.bounds) i) l.side) l.i
