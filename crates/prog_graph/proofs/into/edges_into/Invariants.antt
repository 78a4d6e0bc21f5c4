use Rattle.std.proofs.Common.{take}
use Rattle.prog_graph.specs.Into.{AreInto, numbers_of, targets}
use Rattle.prog_graph.proofs.into.edges_into.Given as goal

abbrev pub invariant-loop-k : goal.invariant-loop-k
invariant-loop-k l = AreInto (numbers_of l.lists.items) l.count (targets (take l.k l.edges))
