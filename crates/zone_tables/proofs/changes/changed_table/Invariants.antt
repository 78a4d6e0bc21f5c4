use Rattle.std.proofs.Common.{◌≡◌}
use Rattle.zone_tables.specs.Tables.{matrix_of, rows_of, apart}
use Rattle.zone_tables.specs.Changes.{changed}
use Rattle.zone_tables.proofs.changes.changed_table.Given as goal

abbrev pub invariant-loop-i : goal.invariant-loop-i
invariant-loop-i l = l.out.items ≡ rows_of (apart (changed l.change (matrix_of l.side l.bounds))) l.side l.i
