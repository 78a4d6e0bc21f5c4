use Rattle.std.proofs.Common.{◌≡◌, ◌+◌, ◌++◌, drop}
use Rattle.prog_theory.specs.Places.{widths}
use Rattle.prog_tree.specs.Stmts.{block_of}
use Rattle.prog_graph.specs.TreeParts.{heads_bl}
use Rattle.prog_graph.proofs.heads.+heads.Given as goal

abbrev pub invariant-block_heads-loop-st : goal.invariant-block_heads-loop-st
invariant-block_heads-loop-st l = record {
  heads : l.out.items ++ heads_bl l.at (block_of (drop l.st-index l.st-items)) ≡ l.fn.out.items ++ heads_bl l.point
      l.block;
  fits : l.at + widths (block_of (drop l.st-index l.st-items)) ≡ l.point + widths l.block;
}
