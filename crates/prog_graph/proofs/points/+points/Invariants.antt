use Rattle.std.proofs.Common.{◌≡◌, ◌+◌, ◌<◌, ◌^◌, ◌++◌, drop, map}
use Rattle.prog_theory.specs.Numbering.{counts}
use Rattle.prog_theory.specs.Places.{widths}
use Rattle.prog_tree.specs.Stmts.{block_of}
use Rattle.prog_graph.specs.Views.{point_of}
use Rattle.prog_graph.specs.TreeParts.{points_bl}
use Rattle.prog_graph.proofs.points.+points.Given as goal

abbrev pub invariant-block_points-loop-st : goal.invariant-block_points-loop-st
invariant-block_points-loop-st l = record {
  points : map point_of l.out.items ++ points_bl l.next (block_of (drop l.st-index l.st-items)) ≡ map point_of
      l.fn.out.items ++ points_bl l.number l.block;
  numbers : l.next + counts (block_of (drop l.st-index l.st-items)) ≡ l.number + counts l.block;
  fits : widths (block_of (drop l.st-index l.st-items)) < 2 ^ 32;
}
