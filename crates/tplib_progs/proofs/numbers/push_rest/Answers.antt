use mir.Syntax.{w64}
use mir.Val.{SFits, of_z, to_z}
use Rattle.std.proofs.Common.{◌≡◌, ◌++◌, ◌∙◌, get_or, ap, map, arith, rules}
use Rattle.std.proofs.lemmas.Int.{to_z-of_z}
use Rattle.std.specs.Prelude.{pos, codes}
use Rattle.std.specs.Fmt.{signed_decimal}
use Rattle.trop_spelling.specs.Printed.{after_commas}
use Rattle.trop_spelling.proofs.Printing.{two_more}
use Rattle.tplib_progs.proofs.Rows.{drop_number}
use Rattle.tplib_progs.proofs.numbers.push_rest.Goals as goal

pub loop-n-preserved : goal.loop-n-preserved
loop-n-preserved c =
    let numbers = c.args.numbers.now in
    let number = get_or numbers c.loop-n.n-index (pos 0) in
    let fits : SFits w64 number = search rules in
    let same : to_z w64 (of_z w64 number) ≡ number = to_z-of_z w64 number fits in
    let left = ap (λ xs. after_commas (map signed_decimal xs))
    (drop_number numbers c.loop-n.n-index (pos 0) (omega arith)) in
    let comma : c.extend_from_slice.new.self.items ≡ c.loop-n.text.items ++ codes ", " =
    c.in_ok-extend_from_slice.ensures.items in
    let told : c.push_number.new.text.items ≡ c.extend_from_slice.new.self.items ++ signed_decimal number =
    c.in_ok-push_number.ensures ∙ ap (λ z. c.extend_from_slice.new.self.items ++ signed_decimal z) same in
    two_more _ _ _ _ (codes ", ") (signed_decimal number) _ _ c.loop-n.invariant left comma told
