use Rattle.std.proofs.Common.{◌++◌, ap, sym, subst, ◌∙◌}
use Rattle.prog_theory.specs.Limits.{program_limits}
use Rattle.prog_texts.specs.Words.{program_pieces}
use Rattle.prog_texts.specs.Programs.{IsWholeProgram}
use Rattle.prog_texts.specs.Printed.{printed}
use Rattle.prog_print.proofs.ReadBack.{printed_spelled}
use Rattle.prog_print.proofs.program.print_program.Goals as goal

pub returns-clause-read_back : goal.returns-clause-read_back
returns-clause-read_back c =
    let p = c.args.program.now in
    let text = c.in_ok-push_program.ensures ∙ ap (λ t. t ++ printed p) c.new-text.ensures.items in
    λ rule suits. subst (λ bytes. IsWholeProgram program_limits rule (program_pieces bytes) p) (sym text)
    (printed_spelled p c.vars.ensures.keeps.names c.vars.ensures.keeps.within rule suits)
