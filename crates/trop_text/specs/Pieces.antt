-- The pieces of which the grammars speak: tokens, and the ends of the lines that have tokens and of the input.
use Rattle.std.specs.Prelude.{◌≡◌, ◌≢◌, ◌⊎◌, ℕ, zero, suc, List, [], ◌∷◌, Option, MatchOption, ◌==◌, ◌||◌, if◌then◌else◌}
use Rattle.trop_text.specs.Tokens.{Tok, tokens_of}
use Rattle.trop_text.specs.Lexer.{left, source, tok_of}
use Rattle.trop_text.specs.declared.pieces.Pieces.{Pieces}
use Rattle.trop_text.specs.declared.pieces.Piece as code
use Rattle.trop_text.specs.declared.pieces.Piece.TheVariants as pieces

-- a token, the end of a line that has tokens, or the end of the input
pub data Piece : Type 0 where
  Token : Tok → Piece
  LineEnd : ℕ → Piece
  InputEnd : Piece

-- the ends that stand behind the last token, in a line, or 0 where none was begun
abbrev pub ends_from : ℕ → List Piece
ends_from zero = InputEnd ∷ []
ends_from (suc line) = LineEnd (suc line) ∷ InputEnd ∷ []

-- The pieces of tokens, of which the first ones may belong to a line that was begun before (0: to none). The end of a
-- line stands before the first token of a later line. Lines without tokens give nothing.
unfoldable pub pieces_from : List Tok → ℕ → List Piece
pieces_from [] line = ends_from line
pieces_from (t ∷ ts) line =
    if (line == 0) || (t.line == line) then Token t ∷ pieces_from ts t.line
    else LineEnd line ∷ Token t ∷ pieces_from ts t.line

-- the tokens among pieces
abbrev pub tokens_in : List Piece → List Tok
tokens_in [] = []
tokens_in (Token t ∷ ps) = t ∷ tokens_in ps
tokens_in (LineEnd line ∷ ps) = tokens_in ps
tokens_in (InputEnd ∷ ps) = tokens_in ps

-- a line ends before a token of another line, and before the end of the input
abbrev pub Turns : ℕ → List Piece → Type 0
Turns line (Token t ∷ ps) = t.line ≢ line
Turns line (InputEnd ∷ ps) = Unit {0}
Turns line _ = ⊥

-- Behind tokens of a line (0: behind none), each line that has tokens ends once, behind them; the input ends last.
abbrev pub AreByLine : ℕ → List Piece → Type 0
AreByLine line [] = ⊥
AreByLine line (Token t ∷ ps) = ((line ≡ 0) ⊎ (t.line ≡ line)) × AreByLine t.line ps
AreByLine line (LineEnd l ∷ ps) = (l ≡ line) × (line ≢ 0) × Turns line ps × AreByLine 0 ps
AreByLine line (InputEnd ∷ ps) = (line ≡ 0) × (ps ≡ [])

-- the pieces of a text
abbrev pub pieces_of : List ℕ → List Piece
pieces_of bytes = pieces_from (tokens_of bytes) 0

-- the pieces that are still to come
abbrev pub pieces_left : Pieces → List Piece
pieces_left pieces = if pieces.ended then [] else pieces_from (left pieces.lexer) pieces.line

-- a piece that the program holds
abbrev pub piece_of : code.Piece → Piece
piece_of (pieces.Token t) = Token (tok_of t)
piece_of (pieces.LineEnd line) = LineEnd line
piece_of pieces.InputEnd = InputEnd

-- the first of the old pieces is given, and the others are left; none is given only at the end
abbrev pub GivesPiece : List Piece → Option (code.Piece × Pieces) → Type 0
GivesPiece old given = MatchOption given (old ≡ []) (λ x. old ≡ piece_of x.0 ∷ pieces_left x.1)

-- the tokens that are still to come
abbrev pub tokens_left : Pieces → List Tok
tokens_left pieces = left pieces.lexer

abbrev pub pieces_source : Pieces → List ℕ
pieces_source pieces = source pieces.lexer

-- the pieces behind the given one are of the same source
abbrev pub KeepsSource : List ℕ → Option (code.Piece × Pieces) → Type 0
KeepsSource bytes given = MatchOption given (Unit {0}) (λ x. pieces_source x.1 ≡ bytes)

-- behind the end of a line stand the pieces of the tokens that are left, with no line begun
abbrev pub ResumesBehind : code.Piece → Pieces → Type 0
ResumesBehind (pieces.LineEnd line) after = pieces_left after ≡ pieces_from (tokens_left after) 0
ResumesBehind _ after = Unit {0}

abbrev pub Resumes : Option (code.Piece × Pieces) → Type 0
Resumes given = MatchOption given (Unit {0}) (λ x. ResumesBehind x.0 x.1)
