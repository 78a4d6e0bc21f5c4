use Rattle.std.proofs.Common.{◌++◌, codes, ap, sym, ◌∙◌, append_assoc}
use Rattle.prog_print.specs.Texts.{indent_text}
use Rattle.prog_print.proofs.Loops.{indent_more}
use Rattle.prog_print.proofs.statements.push_indent.Goals as goal

pub loop-preserved : goal.loop-preserved
loop-preserved c =
    c.in_ok-extend_from_slice.ensures.items ∙ ap (λ t. t ++ codes "  ") c.loop.invariant
    ∙ append_assoc c.args.text.now.items (indent_text c.loop.counter) (codes "  ")
    ∙ ap (λ t. c.args.text.now.items ++ t) (sym (indent_more c.loop.counter))
