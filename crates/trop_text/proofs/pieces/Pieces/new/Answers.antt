use Rattle.trop_text.specs.Lexer.{left}
use Rattle.trop_text.proofs.LineEnds.{tokens_stay, pieces_by_line}
use Rattle.trop_text.proofs.pieces.Pieces.new.Goals as goal

pub returns-clause-same : goal.returns-clause-same
returns-clause-same c = tokens_stay (left c.args.lexer) c.args.line

pub returns-clause-by_line : goal.returns-clause-by_line
returns-clause-by_line c = pieces_by_line (left c.args.lexer) c.args.line
