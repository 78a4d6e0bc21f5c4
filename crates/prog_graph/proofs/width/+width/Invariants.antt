use Rattle.std.proofs.Common.{◌≡◌, ◌+◌, drop}
use Rattle.prog_theory.specs.Places.{widths}
use Rattle.prog_tree.specs.Stmts.{block_of}
use Rattle.prog_graph.proofs.width.+width.Given as goal

abbrev pub invariant-block_width-loop-st : goal.invariant-block_width-loop-st
invariant-block_width-loop-st l = l.total + widths (block_of (drop l.st-index l.st-items)) ≡ widths l.block
