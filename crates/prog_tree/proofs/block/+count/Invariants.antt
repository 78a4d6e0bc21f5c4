use Rattle.std.proofs.Common.{◌≡◌, ◌+◌, drop}
use Rattle.prog_theory.specs.Numbering.{counts}
use Rattle.prog_tree.specs.Stmts.{block_of}
use Rattle.prog_tree.proofs.block.+count.Given as goal

abbrev pub invariant-Block::count-loop-st : goal.invariant-Block::count-loop-st
invariant-Block::count-loop-st l = l.total + counts (block_of (drop l.st-index l.st-items)) ≡ counts l.self
