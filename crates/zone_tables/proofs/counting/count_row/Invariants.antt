use Rattle.std.proofs.Common.{◌≡◌}
use Rattle.zone_theory.specs.Width.{cell, total}
use Rattle.zone_tables.specs.Tables.{matrix_of}
use Rattle.zone_tables.proofs.counting.count_row.Given as goal

abbrev pub invariant-loop-j : goal.invariant-loop-j
invariant-loop-j l = l.count ≡ total (cell (matrix_of l.side l.bounds) l.i) l.j
