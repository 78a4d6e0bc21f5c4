use Rattle.std.proofs.Common.{◌≡◌, ◌++◌, drop}
use Rattle.report_texts.specs.Printed.{lines_text}
use Rattle.mixed_print.specs.Blocks.{row_line}
use Rattle.mixed_print.proofs.lines.push_rows.Given as goal

abbrev pub invariant-loop-row : goal.invariant-loop-row
invariant-loop-row l =
    l.text.items ++ lines_text row_line (drop l.row-index l.rows.rows) ≡ l.fn.text.items
    ++ lines_text row_line l.rows.rows
