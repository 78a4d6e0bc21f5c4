use Rattle.std.proofs.Common.{codes, ◌∙◌, ◌++◌, ap}
use Rattle.trop_spelling.specs.Printed.{numbers, printed_row}
use Rattle.tplib_lean.proofs.Printing.{commented}
use Rattle.tplib_lean.proofs.print.push_comment.Goals as goal

pub returns : goal.returns
returns g c =
    commented _ _ _ _ (codes "# fails at ") _ (codes "\n") c.in_ok-extend_from_slice.ensures.items
    (c.in_ok-push_row.ensures ∙ ap (λ y. c.extend_from_slice.new.self.items
    ++ printed_row g.S.Spelling.KIND (numbers g.S.Scalar.numbering y)) c.as_slice.ensures.entries)
    c.in_ok-push.ensures.items
