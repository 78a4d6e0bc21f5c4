use Rattle.std.proofs.Common.{◌≡◌, ◌≤◌, ◌+◌, ◌∷◌, length, drop, ap, subst, arith}
use Rattle.trop_spelling.proofs.Printing.{two_more, drop_item, drop_all, all_done}
use Rattle.report_print.specs.Texts.{inequalities_text}
use Rattle.report_print.proofs.lines.push_inequalities.Goals as goal

pub loop-inv-preserved : goal.loop-inv-preserved
loop-inv-preserved g c =
    let i = c.loop-inv.inv-index in
    let x = c.inv-item.result in
    let here = drop_item c.as_slice-inv-items.result.now i x (omega arith) c.inv-item.is in
    let item = subst (λ xs. drop i xs ≡ x ∷ drop (i + 1) xs) c.as_slice-inv-items.ensures.inequalities here in
    two_more _ _ _ _ _ _ _ _ c.loop-inv.invariant
    (ap (inequalities_text g.S.Spelling.KIND g.S.Scalar.numbering c.args.names.now) item)
    c.in_ok-push_inv.ensures c.in_ok-push.ensures.items

pub returns : goal.returns
returns g c =
    let invs = c.args.invs.now.inequalities in
    let past : length invs ≤ c.loop-inv.inv-index =
    omega (arith, ap length c.as_slice-inv-items.ensures.inequalities) in
    all_done _ _ _ c.loop-inv.invariant
    (ap (inequalities_text g.S.Spelling.KIND g.S.Scalar.numbering c.args.names.now)
    (drop_all invs c.loop-inv.inv-index past))
