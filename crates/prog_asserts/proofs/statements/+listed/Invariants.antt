use Rattle.std.proofs.Common.{◌≡◌, ◌++◌, drop}
use Rattle.prog_tree.specs.Stmts.{block_of}
use Rattle.prog_asserts.specs.Listed.{shown, listed_bl}
use Rattle.prog_asserts.proofs.statements.+listed.Given as goal

abbrev pub invariant-push_block-loop-st : goal.invariant-push_block-loop-st
invariant-push_block-loop-st l =
    shown l.out.items ++ listed_bl (block_of (drop l.st-index l.st-items)) ≡ shown l.fn.out.items ++ listed_bl l.block
