use Rattle.std.proofs.Common.{◌≡◌, ◌++◌, drop}
use Rattle.report_texts.specs.Printed.{lines_text}
use Rattle.mixed_print.specs.Blocks.{inv_line}
use Rattle.mixed_print.proofs.lines.push_inequalities.Given as goal

abbrev pub invariant-loop-inv : goal.invariant-loop-inv
invariant-loop-inv l =
    l.text.items ++ lines_text (inv_line l.names) (drop l.inv-index l.invs.inequalities) ≡ l.fn.text.items
    ++ lines_text (inv_line l.names) l.invs.inequalities
