use Rattle.std.proofs.Common.{◌≡◌, ℕ, List, sym, ap, subst, ◌∙◌}
use Rattle.trop_text.specs.Lexer.{source}
use Rattle.prog_theory.specs.Limits.{program_limits}
use Rattle.prog_theory.specs.Named.{Named}
use Rattle.prog_texts.specs.Words.{program_pieces}
use Rattle.prog_texts.specs.Shapes.{whole_program}
use Rattle.prog_texts.specs.Programs.{IsWholeProgram, IsProgramCause, whole_program_at}
use Rattle.prog_texts.proofs.ProgramLaws.{whole_program_only, whole_program_fault}
use Rattle.prog_texts.proofs.Ends.{program_spelled}
use Rattle.prog_reading.specs.Left.{left}
use Rattle.prog_reading.specs.Rules.{rule_of}
use Rattle.prog_lang.specs.Outcomes.{IsPlaced}
use Rattle.prog_lang.proofs.Outcomes.{start_is, refused, yielded, not_refused}
use Rattle.prog_lang.proofs.program.read_program.Goals as goal

pub returns-in-Ok-clause-found : goal.returns-in-Ok-clause-found
returns-in-Ok-clause-found c =
    let rule = rule_of c.args.rule in
    let s = start_is c.args.bytes.now _ _ c.new-lexer.ensures.tokens c.begin.ensures.left in
    program_spelled program_limits rule c.args.bytes.now _ _ (ap (whole_program_at program_limits rule) (sym s)
    ∙ c.in-Ok.ensures)

pub returns-in-Ok-clause-only : goal.returns-in-Ok-clause-only
returns-in-Ok-clause-only c p h =
    let rule = rule_of c.args.rule in
    let s = start_is c.args.bytes.now _ _ c.new-lexer.ensures.tokens c.begin.ensures.left in
    yielded (IsWholeProgram program_limits rule) whole_program (IsProgramCause program_limits rule)
    (whole_program_at program_limits rule) _ _ _ _ _ p s c.in-Ok.ensures
    (whole_program_only program_limits rule (program_pieces c.args.bytes.now) p h)

pub returns-in-Err-clause-only : goal.returns-in-Err-clause-only
returns-in-Err-clause-only c p h =
    let rule = rule_of c.args.rule in
    let s = start_is c.args.bytes.now _ _ c.new-lexer.ensures.tokens c.begin.ensures.left in
    not_refused (IsWholeProgram program_limits rule) whole_program (IsProgramCause program_limits rule)
    (whole_program_at program_limits rule) (λ (q : Named). q) (source c.new-lexer.result) _ _ _ p c.in-Err.e
    c.placed.result s c.in-Err.ensures
    (whole_program_only program_limits rule (program_pieces c.args.bytes.now) p h) c.placed.ensures

pub returns-in-Err-clause-fault : goal.returns-in-Err-clause-fault
returns-in-Err-clause-fault c =
    let rule = rule_of c.args.rule in
    let s = start_is c.args.bytes.now _ _ c.new-lexer.ensures.tokens c.begin.ensures.left in
    refused (IsWholeProgram program_limits rule) whole_program (IsProgramCause program_limits rule)
    (whole_program_at program_limits rule) (whole_program_fault program_limits rule) c.args.bytes.now _ _ c.in-Err.e
    c.placed.result s c.in-Err.ensures
    (subst (λ (b : List ℕ). IsPlaced b c.in-Err.e c.placed.result) c.new-lexer.ensures.source c.placed.ensures)
