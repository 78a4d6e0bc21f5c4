use Rattle.std.proofs.Common.{List, ◌∷◌, ap, sym, ◌∙◌}
use Rattle.trop_text.specs.Tokens.{Tok}
use Rattle.trop_text.specs.Pieces.{Piece, pieces_from, LineEnd}
use Rattle.trop_text.proofs.LineEnds.{line_over}
use Rattle.trop_text.proofs.pieces.Pieces.next.Goals as goal

pub returns-then-is_outside-clause-pieces : goal.returns-then-is_outside-clause-pieces
returns-then-is_outside-clause-pieces c =
    let here = c.skip.new.self in
    let line = c.args.self.line in
    rw c.if-self.false
    (ap (λ (ts : List Tok). pieces_from ts line) (sym c.skip.ensures.tokens)
    ∙ line_over here.rest.now here.line here.column line c.skip.ensures.at_token c.if-self-ne0.true
    (c.is_outside.ensures.0 c.if-is_outside.true)
    ∙ ap (λ (ps : List Piece). LineEnd line ∷ ps) (sym c.new.ensures.pieces))
