use Rattle.trop_text.specs.Pieces.{pieces_left}
use Rattle.prog_reading.specs.Rules.{rule_of}
use Rattle.report_reading.proofs.ProgramFronts.{begun_is, part_found, part_failed}
use Rattle.report_reading.proofs.part.program_part.Goals as goal

pub returns-in-Ok : goal.returns-in-Ok
returns-in-Ok c = part_found (rule_of c.args.rule) (pieces_left c.args.at) _
    (begun_is (pieces_left c.args.at) _ _ _ c.begin.ensures.left c.lexer.ensures.tokens c.requires) c.in-Ok.program
    c.in-Ok.rest c.in-Ok.ensures

pub returns-in-Err : goal.returns-in-Err
returns-in-Err c = part_failed (rule_of c.args.rule) (pieces_left c.args.at) _
    (begun_is (pieces_left c.args.at) _ _ _ c.begin.ensures.left c.lexer.ensures.tokens c.requires) c.in-Err.e
    c.plain.result c.in-Err.ensures c.plain.ensures
