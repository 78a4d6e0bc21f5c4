use Rattle.std.proofs.Common.{◌≡◌, ◌++◌, drop}
use Rattle.report_print.specs.Texts.{inequalities_text}
use Rattle.report_print.proofs.lines.push_inequalities.Given as goal

abbrev pub invariant-loop-inv : goal.invariant-loop-inv
invariant-loop-inv g l =
    let kind = g.S.Spelling.KIND in
    let N = g.S.Scalar.numbering in
    l.text.items ++ inequalities_text kind N l.names (drop l.inv-index l.invs.inequalities) ≡
    l.fn.text.items ++ inequalities_text kind N l.names l.invs.inequalities
