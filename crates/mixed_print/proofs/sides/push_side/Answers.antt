use Rattle.std.proofs.Common.{◌≡◌, ◌++◌, sym, subst, ap, refl, ◌∙◌, OnOk}
use Rattle.trop_spelling.specs.Spelling.{element_text}
use Rattle.trop_spelling.proofs.Printing.{length-terms_from, no_term, lone_term, many_terms, whole_sum}
use Rattle.mixed_print.specs.Names.{twin_names}
use Rattle.mixed_print.proofs.sides.push_side.Goals as goal

pub returns-then-count-eq0 : goal.returns-then-count-eq0
returns-then-count-eq0 g c =
    let kind = g.S.Spelling.KIND in
    let N = g.S.Scalar.numbering in
    let none = ap N.to c.zero.ensures ∙ (g.met.S.Scalar.number_laws.none _).1 refl in
    let count = length-terms_from N kind (twin_names c.args.names.now) 0 c.args.side.now
    ∙ sym c.count_terms-count.ensures in
    subst (λ t. OnOk c.push_element.result (c.push_element.new.text.items ≡ c.args.text.now.items ++ t))
    (ap (element_text kind) none ∙ sym (no_term kind _ (count ∙ c.if-count-eq0.true))) c.push_element.ensures.ok

pub returns-then-count-eq1 : goal.returns-then-count-eq1
returns-then-count-eq1 g c =
    let kind = g.S.Spelling.KIND in
    let count = length-terms_from g.S.Scalar.numbering kind (twin_names c.args.names.now) 0 c.args.side.now
    ∙ sym c.count_terms-count.ensures in
    subst (λ t. OnOk c.push_terms.result (c.push_terms.new.text.items ≡ c.args.text.now.items ++ t))
    (sym (lone_term kind _ (count ∙ c.if-count-eq1.true))) c.push_terms.ensures

pub returns : goal.returns
returns g c =
    let kind = g.S.Spelling.KIND in
    let count = length-terms_from g.S.Scalar.numbering kind (twin_names c.args.names.now) 0 c.args.side.now
    ∙ sym c.count_terms-count.ensures in
    whole_sum c.args.text.now.items _ _ _ _ _ _ _ (c.in_ok-extend_from_slice.ensures.items
    ∙ ap (λ w. c.args.text.now.items ++ w) c.sum_word.ensures) c.in_ok-push.ensures.items c.in_ok-push_terms.ensures
    c.in_ok-push-2.ensures.items
    (many_terms kind _ _ count c.if-count-eq0.false c.if-count-eq1.false)
