use Rattle.std.proofs.Common.{◌≡◌, ◌≤◌, ◌+◌, ◌∷◌, length, drop, ap, subst, arith}
use Rattle.trop_spelling.proofs.Printing.{two_more, drop_item, drop_all, all_done}
use Rattle.report_print.specs.Texts.{rows_text}
use Rattle.report_print.proofs.lines.push_rows.Goals as goal

pub loop-row-preserved : goal.loop-row-preserved
loop-row-preserved g c =
    let i = c.loop-row.row-index in
    let x = c.row-item.result in
    let here = drop_item c.as_slice-row-items.result.now i x (omega arith) c.row-item.is in
    let item = subst (λ xs. drop i xs ≡ x ∷ drop (i + 1) xs) c.as_slice-row-items.ensures.rows here in
    two_more _ _ _ _ _ _ _ _ c.loop-row.invariant (ap (rows_text g.S.Spelling.KIND g.S.Scalar.numbering) item)
    c.in_ok-push_generator.ensures c.in_ok-push.ensures.items

pub returns : goal.returns
returns g c =
    let rows = c.args.rows.now.rows in
    let past : length rows ≤ c.loop-row.row-index = omega (arith, ap length c.as_slice-row-items.ensures.rows) in
    all_done _ _ _ c.loop-row.invariant (ap (rows_text g.S.Spelling.KIND g.S.Scalar.numbering)
    (drop_all rows c.loop-row.row-index past))
