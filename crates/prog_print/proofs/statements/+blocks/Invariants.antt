use Rattle.std.proofs.Common.{◌≡◌, ◌+◌, ◌<◌, ◌^◌, ◌++◌, drop, length}
use Rattle.prog_theory.specs.Fits.{FitsBlock}
use Rattle.prog_theory.specs.Nesting.{block_nesting}
use Rattle.prog_tree.specs.Stmts.{block_of}
use Rattle.prog_print.specs.Texts.{block_text}
use Rattle.prog_print.proofs.statements.+blocks.Given as goal

abbrev pub invariant-push_block-loop-stmt : goal.invariant-push_block-loop-stmt
invariant-push_block-loop-stmt l = record {
  text : l.text.items ++ block_text l.names l.depth (block_of (drop l.stmt-index l.stmt-items)) ≡
      l.fn.text.items ++ block_text l.names l.depth l.block;
  fits : FitsBlock (length l.names) (block_of (drop l.stmt-index l.stmt-items));
  deep : l.depth + block_nesting (block_of (drop l.stmt-index l.stmt-items)) < 2 ^ 32;
}
