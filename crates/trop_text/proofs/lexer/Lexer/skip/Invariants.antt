use Rattle.std.proofs.Common.{◌≡◌, ◌≤◌, ◌+◌, length}
use Rattle.trop_text.specs.Tokens.{tokens_at}
use Rattle.trop_text.specs.Lexer.{left}
use Rattle.trop_text.proofs.lexer.Lexer.skip.Given as goal

abbrev pub invariant-bytes : goal.invariant-bytes
invariant-bytes l = record {
  same : tokens_at l.rest l.line l.column ≡ left l.fn.self;
  line_fits : l.line + length l.rest ≤ 1 + length l.fn.self.source.now;
  column_fits : l.column + length l.rest ≤ 1 + length l.fn.self.source.now;
}

abbrev pub decreases-bytes : goal.decreases-bytes
decreases-bytes l = length l.rest
