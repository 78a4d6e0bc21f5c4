use Rattle.trop_theory.specs.Inequalities.{Inequality}
use Rattle.trop_text.specs.Lexer.{left, source}
use Rattle.trop_text.specs.Pieces.{pieces_left}
use Rattle.trop_spelling.proofs.InequalityLaws.{inequality_reads}
use Rattle.trop_reading.proofs.Outcomes.{line_start_is, line_rest_is, read_in_line, answered_in_line, refused_in_line, not_answered_in_line}
use Rattle.trop_spelling.proofs.parts.read_ineq.Goals as goal

pub returns-in-Ok-clause-found : goal.returns-in-Ok-clause-found
returns-in-Ok-clause-found g c =
    read_in_line (inequality_reads g.S.Scalar.ring g.S.Scalar.numbering c.args.bound c.args.names.now g.S.Spelling.KIND)
    c.args.line (left c.args.lexer.now) (pieces_left c.new.result)
    (line_start_is c.args.line c.args.lexer.now c.copy-start.result c.new.result c.copy-start.ensures.tokens
    c.new.ensures.pieces)
    c.in-Ok.ineq (pieces_left c.in-Ok.rest) (left c.lexer.result) c.in-Ok.ensures.gives
    (line_rest_is c.in-Ok.rest c.lexer.result c.in-Ok.ensures.resumes c.lexer.ensures.tokens)

pub returns-in-Ok-clause-only : goal.returns-in-Ok-clause-only
returns-in-Ok-clause-only g c =
    answered_in_line (inequality_reads g.S.Scalar.ring g.S.Scalar.numbering c.args.bound c.args.names.now
    g.S.Spelling.KIND) c.args.line (left c.args.lexer.now) (pieces_left c.new.result)
    (line_start_is c.args.line c.args.lexer.now c.copy-start.result c.new.result c.copy-start.ensures.tokens
    c.new.ensures.pieces)
    (λ (x : (Inequality g.row.S.Denot)). x) c.in-Ok.ineq (pieces_left c.in-Ok.rest) c.in-Ok.ensures.gives

pub returns-in-Err-clause-only : goal.returns-in-Err-clause-only
returns-in-Err-clause-only g c =
    not_answered_in_line (inequality_reads g.S.Scalar.ring g.S.Scalar.numbering c.args.bound c.args.names.now
    g.S.Spelling.KIND) c.args.line (left c.args.lexer.now) (pieces_left c.new.result)
    (line_start_is c.args.line c.args.lexer.now c.copy-start.result c.new.result c.copy-start.ensures.tokens
    c.new.ensures.pieces)
    (λ (x : (Inequality g.row.S.Denot)). x) (source c.copy-start.result) c.in-Err.e c.part_err.result
    c.in-Err.ensures.gives c.part_err.ensures

pub returns-in-Err-clause-fault : goal.returns-in-Err-clause-fault
returns-in-Err-clause-fault g c =
    refused_in_line (inequality_reads g.S.Scalar.ring g.S.Scalar.numbering c.args.bound c.args.names.now
    g.S.Spelling.KIND) c.args.line (left c.args.lexer.now) (pieces_left c.new.result)
    (line_start_is c.args.line c.args.lexer.now c.copy-start.result c.new.result c.copy-start.ensures.tokens
    c.new.ensures.pieces)
    (source c.args.lexer.now) (source c.copy-start.result) c.copy-start.ensures.source c.in-Err.e c.part_err.result
    c.in-Err.ensures.gives c.part_err.ensures
