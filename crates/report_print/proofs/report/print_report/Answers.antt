use Rattle.std.proofs.Common.{◌≡◌, IfOk, ap, sym, subst, ◌∙◌}
use Rattle.trop_text.specs.Names.{AreNames}
use Rattle.report_texts.specs.Modes.{InMax, InMin}
use Rattle.report_texts.specs.Printed.{printed_report}
use Rattle.report_value.specs.Texts.{text_of}
use Rattle.report_print.proofs.Parts.{printed_is}
use Rattle.report_print.proofs.ReadBack.{text_spells}
use Rattle.report_print.proofs.report.print_report.Goals as goal

pub returns-in-Max-clause-text : goal.returns-in-Max-clause-text
returns-in-Max-clause-text c =
    subst (λ t. IfOk c.print_over.result (λ text. text.items ≡ t))
    (sym (printed_is InMax c.in-Max.report) ∙ ap (λ r. printed_report (text_of r)) (sym c.in-Max.is))
    c.print_over.ensures.text

pub returns-in-Max-clause-read_back : goal.returns-in-Max-clause-read_back
returns-in-Max-clause-read_back c = λ within suits.
    text_spells (λ text. text.items) c.print_over.result (text_of c.args.report.now) within
    (subst (λ r. AreNames (text_of r).program.names) (sym c.in-Max.is) c.print_over.ensures.keeps.program.names) suits
    (subst (λ t. IfOk c.print_over.result (λ text. text.items ≡ t))
    (sym (printed_is InMax c.in-Max.report) ∙ ap (λ r. printed_report (text_of r)) (sym c.in-Max.is))
    c.print_over.ensures.text)

pub returns-in-Min-clause-text : goal.returns-in-Min-clause-text
returns-in-Min-clause-text c =
    subst (λ t. IfOk c.print_over-in-Min.result (λ text. text.items ≡ t))
    (sym (printed_is InMin c.in-Min.report) ∙ ap (λ r. printed_report (text_of r)) (sym c.in-Min.is))
    c.print_over-in-Min.ensures.text

pub returns-in-Min-clause-read_back : goal.returns-in-Min-clause-read_back
returns-in-Min-clause-read_back c = λ within suits.
    text_spells (λ text. text.items) c.print_over-in-Min.result (text_of c.args.report.now) within
    (subst (λ r. AreNames (text_of r).program.names) (sym c.in-Min.is) c.print_over-in-Min.ensures.keeps.program.names)
    suits
    (subst (λ t. IfOk c.print_over-in-Min.result (λ text. text.items ≡ t))
    (sym (printed_is InMin c.in-Min.report) ∙ ap (λ r. printed_report (text_of r)) (sym c.in-Min.is))
    c.print_over-in-Min.ensures.text)
