use Rattle.trop_text.proofs.Feeds.{line_ends}
use Rattle.trop_text.proofs.lexer.Lexer.line_end.Goals as goal

pub returns-clause-end : goal.returns-clause-end
returns-clause-end c = λ low high. rw c.line_end.ensures (line_ends c.args.self.now.source.now c.args.line low high)
