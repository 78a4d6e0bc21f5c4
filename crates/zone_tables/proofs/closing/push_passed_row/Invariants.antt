use Rattle.std.proofs.Common.{◌≡◌, ◌++◌}
use Rattle.zone_tables.specs.Tables.{matrix_of, row_of, apart}
use Rattle.zone_tables.specs.Passes.{passed}
use Rattle.zone_tables.proofs.closing.push_passed_row.Given as goal

abbrev pub invariant-loop-j : goal.invariant-loop-j
invariant-loop-j l = l.out.items ≡ l.initial.out.items ++ row_of (apart (passed (matrix_of l.side l.bounds) l.k)) l.i
    l.j
