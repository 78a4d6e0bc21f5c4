use Rattle.std.proofs.Common.{◌≡◌, ◌≤◌, ◌+◌, ◌∷◌, length, drop, ap, subst, arith}
use Rattle.trop_spelling.proofs.Printing.{two_more, drop_item, drop_all, all_done}
use Rattle.report_texts.specs.Printed.{lines_text}
use Rattle.mixed_print.specs.Blocks.{row_line}
use Rattle.mixed_print.proofs.lines.push_rows.Goals as goal

pub loop-row-preserved : goal.loop-row-preserved
loop-row-preserved c =
    let i = c.loop-row.row-index in
    let x = c.row-item.result in
    let here = drop_item c.as_slice-row-items.result.now i x (omega arith) c.row-item.is in
    let item = subst (λ xs. drop i xs ≡ x ∷ drop (i + 1) xs) c.as_slice-row-items.ensures.rows here in
    two_more _ _ _ _ _ _ _ _ c.loop-row.invariant (ap (lines_text row_line) item)
    c.in_ok-push_generator.ensures c.in_ok-push.ensures.items

pub returns : goal.returns
returns c =
    let rows = c.args.rows.now.rows in
    let past : length rows ≤ c.loop-row.row-index = omega (arith, ap length c.as_slice-row-items.ensures.rows) in
    all_done _ _ _ c.loop-row.invariant (ap (lines_text row_line)
    (drop_all rows c.loop-row.row-index past))
