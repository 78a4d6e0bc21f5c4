use Rattle.std.proofs.Common.{◌≡◌, ◌+◌, ◌++◌, drop}
use Rattle.prog_theory.specs.Numbering.{counts}
use Rattle.prog_tree.specs.Stmts.{block_of}
use Rattle.report_lines.specs.AssertNumbers.{numbers_bl}
use Rattle.report_lines.proofs.asserts.+numbers.Given as goal

abbrev pub invariant-block_numbers-loop-stmt : goal.invariant-block_numbers-loop-stmt
invariant-block_numbers-loop-stmt l = record {
  numbers : l.out.items ++ numbers_bl l.next (block_of (drop l.stmt-index l.stmt-items)) ≡
      l.fn.out.items ++ numbers_bl l.number l.block;
  counts : l.next + counts (block_of (drop l.stmt-index l.stmt-items)) ≡ l.number + counts l.block;
}
