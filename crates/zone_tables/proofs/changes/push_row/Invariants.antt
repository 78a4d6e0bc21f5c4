use Rattle.std.proofs.Common.{◌≡◌, ◌++◌}
use Rattle.zone_tables.specs.Tables.{matrix_of, row_of, apart}
use Rattle.zone_tables.specs.Changes.{changed}
use Rattle.zone_tables.proofs.changes.push_row.Given as goal

abbrev pub invariant-loop-j : goal.invariant-loop-j
invariant-loop-j l = l.out.items ≡ l.initial.out.items ++ row_of (apart (changed l.change (matrix_of l.side l.bounds)))
    l.i l.j
