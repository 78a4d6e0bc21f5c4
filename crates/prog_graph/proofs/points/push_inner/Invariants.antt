use Rattle.std.proofs.Common.{◌≡◌, ◌++◌, map, replicate}
use Rattle.prog_theory.specs.Graph as graph
use Rattle.prog_graph.specs.Views.{point_of}
use Rattle.prog_graph.proofs.points.push_inner.Given as goal

abbrev pub invariant-loop : goal.invariant-loop
invariant-loop l = map point_of l.out.items ≡ map point_of l.fn.out.items ++ replicate l.counter graph.Inner
