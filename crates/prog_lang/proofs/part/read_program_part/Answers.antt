use Rattle.std.proofs.Common.{◌≡◌, ℕ, List, ap, subst, ◌∙◌}
use Rattle.trop_text.specs.Lexer.{source}
use Rattle.prog_theory.specs.Limits.{program_limits}
use Rattle.prog_theory.specs.Named.{Named}
use Rattle.trop_text.specs.Tokens.{Tok}
use Rattle.prog_texts.specs.Shapes.{closed_program}
use Rattle.prog_texts.specs.Programs.{IsProgramCause}
use Rattle.prog_texts.specs.Parts.{IsClosed, part_at}
use Rattle.prog_texts.proofs.PartLaws.{part_fault}
use Rattle.prog_reading.specs.Left.{left}
use Rattle.prog_reading.specs.Rules.{rule_of}
use Rattle.prog_lang.specs.Outcomes.{part_pieces, IsPlaced}
use Rattle.prog_lang.proofs.Outcomes.{refused, yielded, not_refused}
use Rattle.prog_lang.proofs.PartSteps.{part_read_is, part_spelled}
use Rattle.prog_lang.proofs.part.read_program_part.Goals as goal

pub returns-in-Ok-clause-found : goal.returns-in-Ok-clause-found
returns-in-Ok-clause-found c =
    let s = c.begin.ensures.left ∙ ap part_pieces c.copy-start.ensures.tokens in
    part_read_is (rule_of c.args.rule) _ _ _ c.in-Ok.rest _ s c.in-Ok.ensures.gives c.lexer.ensures.tokens

pub returns-in-Ok-clause-only : goal.returns-in-Ok-clause-only
returns-in-Ok-clause-only c front rest p e h k =
    let s = c.begin.ensures.left ∙ ap part_pieces c.copy-start.ensures.tokens in
    yielded (IsClosed program_limits (rule_of c.args.rule)) closed_program
    (IsProgramCause program_limits (rule_of c.args.rule)) (part_at program_limits (rule_of c.args.rule)) _ _ _ _ _ p
    s c.in-Ok.ensures.gives (part_spelled (rule_of c.args.rule) _ _ front rest p s e h k)

pub returns-in-Err-clause-only : goal.returns-in-Err-clause-only
returns-in-Err-clause-only c front rest p e h k =
    let s = c.begin.ensures.left ∙ ap part_pieces c.copy-start.ensures.tokens in
    not_refused (IsClosed program_limits (rule_of c.args.rule)) closed_program
    (IsProgramCause program_limits (rule_of c.args.rule)) (part_at program_limits (rule_of c.args.rule))
    (λ (q : Named). q) (source c.copy-start.result) _ _ _ p c.in-Err.e c.placed.result s c.in-Err.ensures.gives
    (part_spelled (rule_of c.args.rule) _ _ front rest p s e h k) c.placed.ensures

pub returns-in-Err-clause-fault : goal.returns-in-Err-clause-fault
returns-in-Err-clause-fault c =
    let s = c.begin.ensures.left ∙ ap part_pieces c.copy-start.ensures.tokens in
    refused (IsClosed program_limits (rule_of c.args.rule)) closed_program
    (IsProgramCause program_limits (rule_of c.args.rule)) (part_at program_limits (rule_of c.args.rule))
    (part_fault program_limits (rule_of c.args.rule)) _ _ _ c.in-Err.e c.placed.result s c.in-Err.ensures.gives
    (subst (λ (b : List ℕ). IsPlaced b c.in-Err.e c.placed.result) c.copy-start.ensures.source c.placed.ensures)
