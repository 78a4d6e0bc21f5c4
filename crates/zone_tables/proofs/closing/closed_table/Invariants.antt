use Rattle.zone_tables.specs.Passes.{IsPassed}
use Rattle.zone_tables.proofs.closing.closed_table.Given as goal

abbrev pub invariant-loop-k : goal.invariant-loop-k
invariant-loop-k l = IsPassed l.vars l.bounds l.k l.table
