use Rattle.zone_theory.specs.Bounds.{most}
use Rattle.zone_tables.proofs.Merged.{AreMadeTo}
use Rattle.zone_tables.proofs.merging.joined_table.Given as goal

abbrev pub invariant-loop-k : goal.invariant-loop-k
invariant-loop-k l = AreMadeTo most l.left l.right l.k l.out.items
