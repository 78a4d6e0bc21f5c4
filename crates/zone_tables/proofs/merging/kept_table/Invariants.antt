use Rattle.zone_tables.specs.Kept.{remaining}
use Rattle.zone_tables.proofs.Merged.{AreMadeTo}
use Rattle.zone_tables.proofs.merging.kept_table.Given as goal

abbrev pub invariant-loop-k : goal.invariant-loop-k
invariant-loop-k l = AreMadeTo remaining l.old l.reached l.k l.out.items
