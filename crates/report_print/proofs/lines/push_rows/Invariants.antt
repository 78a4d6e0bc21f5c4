use Rattle.std.proofs.Common.{◌≡◌, ◌++◌, drop}
use Rattle.report_print.specs.Texts.{rows_text}
use Rattle.report_print.proofs.lines.push_rows.Given as goal

abbrev pub invariant-loop-row : goal.invariant-loop-row
invariant-loop-row g l =
    let kind = g.S.Spelling.KIND in
    let N = g.S.Scalar.numbering in
    l.text.items ++ rows_text kind N (drop l.row-index l.rows.rows) ≡ l.fn.text.items ++ rows_text kind N l.rows.rows
