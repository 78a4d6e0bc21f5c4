use Rattle.std.proofs.Common.{◌<◌, ◌^◌, ◌++◌, length, ap, ◌∙◌, sym, subst, arith}
use Rattle.trop_spelling.specs.Parts.{IsRowLine}
use Rattle.trop_reading.specs.InLines.{IsOnlyLine}
use Rattle.trop_spelling.specs.Printed.{numbers, printed_row}
use Rattle.trop_spelling.proofs.WrittenParts.{row_read_back}
use Rattle.trop_spelling.proofs.print_row.row_text.Goals as goal

pub returns-clause-read_back : goal.returns-clause-read_back
returns-clause-read_back g c =
    let kind = g.S.Spelling.KIND in
    let R = g.S.Scalar.ring in
    let N = g.S.Scalar.numbering in
    let row = c.args.row.now in
    let text = c.in_ok-push_row.ensures ∙ ap (λ t. t ++ printed_row kind (numbers N c.as_slice.result.now))
    c.new-text.ensures.items ∙ ap (λ x. printed_row kind (numbers N x)) c.as_slice.ensures.entries in
    λ bound most small.
    let low : bound < 2 ^ 63 = omega arith in
    subst (λ bytes. IsOnlyLine (IsRowLine kind R N bound (length row)) bytes row) (sym text)
    (row_read_back kind g.S.Scalar.REVERSED R N g.met.S.Scalar.number_laws g.met.S.Spelling.kind_laws bound row low
    small)
