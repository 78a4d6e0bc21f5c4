use Rattle.std.proofs.Common.{[]}
use Rattle.prog_graph.specs.Into.{AreInto, numbers_of}
use Rattle.prog_graph.proofs.into.empty_lists.Given as goal

abbrev pub invariant-loop : goal.invariant-loop
invariant-loop l = AreInto (numbers_of l.lists.items) l.counter []
