use Rattle.std.proofs.Common.{◌≡◌}
use Rattle.zone_tables.specs.Tables.{matrix_of, rows_of, apart}
use Rattle.zone_tables.specs.Passes.{passed}
use Rattle.zone_tables.proofs.closing.passed_table.Given as goal

abbrev pub invariant-loop-i : goal.invariant-loop-i
invariant-loop-i l = l.out.items ≡ rows_of (apart (passed (matrix_of l.side l.bounds) l.k)) l.side l.i
