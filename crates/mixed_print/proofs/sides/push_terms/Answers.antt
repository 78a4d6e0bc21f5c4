use Rattle.std.proofs.Common.{◌+◌, ◌∷◌, ◌++◌, ap, ◌∙◌, sym, drop, arith}
use Rattle.trop_spelling.specs.Printed.{terms_from, numbers}
use Rattle.trop_spelling.proofs.Printing.{drop_item, drop_all, one_term, none_left, terms_left, finite_number}
use Rattle.mixed_print.specs.Names.{twin_names}
use Rattle.mixed_print.proofs.sides.push_terms.Goals as goal

pub loop-i-preserved : goal.loop-i-preserved
loop-i-preserved g c =
    let kind = g.S.Spelling.KIND in
    let N = g.S.Scalar.numbering in
    let names = twin_names c.args.names.now in
    let side = c.args.side.now in
    let i = c.loop-i.i in
    let item = ap (numbers N) (drop_item side i c.index-side-i.result (omega arith) c.index-side-i.is) in
    let number = finite_number _ _ _ c.is_none.ensures c.if-is_none.false c.number.ensures in
    let terms = ap (terms_from kind names i) (item ∙ ap (λ n. n ∷ numbers N (drop (i + 1) side)) number.1) in
    one_term c.loop-i.started c.loop-i.text.items _ _ _ _ _
    (ap (λ ts. c.loop-i.text.items ++ terms_left c.loop-i.started ts) (sym terms) ∙ c.loop-i.invariant)
    c.in_ok-push_comma.ensures (c.in_ok-push_term.ensures number.0 number.1)

pub returns : goal.returns
returns g c = none_left c.loop-i.started _ _ _ c.loop-i.invariant
    (ap (λ xs. terms_from g.S.Spelling.KIND (twin_names c.args.names.now) c.loop-i.i (numbers g.S.Scalar.numbering xs))
    (drop_all c.args.side.now c.loop-i.i c.loop-i-test.false))
