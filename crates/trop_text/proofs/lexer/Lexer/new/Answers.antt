use Rattle.trop_text.proofs.Lexing.{all_lexed}
use Rattle.trop_text.proofs.lexer.Lexer.new.Goals as goal

pub returns-clause-lexed : goal.returns-clause-lexed
returns-clause-lexed c = all_lexed c.args.bytes.now
