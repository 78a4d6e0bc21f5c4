use Rattle.std.proofs.Common.{◌≡◌, ◌+◌, ◌++◌, drop, map, length}
use Rattle.prog_theory.specs.Places.{widths}
use Rattle.prog_tree.specs.Stmts.{block_of}
use Rattle.prog_graph.specs.Views.{edge_of}
use Rattle.prog_theory.specs.Each.{EachBlock}
use Rattle.prog_graph.specs.Modest.{IsModest, IsAnything}
use Rattle.prog_graph.specs.TreeParts.{edges_bl}
use Rattle.prog_graph.proofs.edges.+edges.Given as goal

abbrev pub invariant-block_edges-loop-i : goal.invariant-block_edges-loop-i
invariant-block_edges-loop-i l = record {
  edges : map edge_of l.out.items ++ edges_bl l.at (block_of (drop l.i l.st-items)) l.next ≡ map edge_of l.fn.out.items
      ++ edges_bl l.point l.block l.next;
  fits : l.at + widths (block_of (drop l.i l.st-items)) ≡ l.point + widths l.block;
  modest : EachBlock IsAnything IsModest (block_of (drop l.i l.st-items));
  number : l.count ≡ length l.st-items;
}
