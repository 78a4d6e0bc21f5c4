-- What a lexer has left, and its source.
use Rattle.std.specs.Prelude.{◌≡◌, ℕ, List, [], ◌∷◌, false, Option, MatchOption}
use Rattle.trop_text.specs.declared.lexer.Lexer.{Lexer}
use Rattle.trop_text.specs.declared.token.Token.{Token}
use Rattle.trop_text.specs.Bytes.{is_line_feed, is_blank, is_hash}
use Rattle.trop_text.specs.Tokens.{Tok, tokens_at}

-- all bytes that the lexer was made of
abbrev pub source : Lexer → List ℕ
source lexer = lexer.source.now

-- the tokens that are still to come
abbrev pub left : Lexer → List Tok
left lexer = tokens_at lexer.rest.now lexer.line lexer.column

-- the token that the program holds, with its bytes
abbrev pub tok_of : Token → Tok
tok_of t = record { kind = t.kind; text = t.text.now; line = t.line; column = t.column }

-- the first of the old tokens is given and the others are left; none is given only at the end
abbrev pub GivesToken : List Tok → Option Token → List Tok → Type 0
GivesToken old given new = MatchOption given ((old ≡ []) × (new ≡ [])) (λ t. old ≡ tok_of t ∷ new)

-- the bytes that are still to come, and the line in which they begin
abbrev pub bytes_left : Lexer → List ℕ
bytes_left lexer = lexer.rest.now

abbrev pub line_at : Lexer → ℕ
line_at lexer = lexer.line

-- the bytes begin with a token, or there is none
abbrev pub BeginWithToken : List ℕ → Type 0
BeginWithToken [] = Unit {0}
BeginWithToken (b ∷ bs) = (is_line_feed b ≡ false) × (is_blank b ≡ false) × (is_hash b ≡ false)

abbrev pub IsAtToken : Lexer → Type 0
IsAtToken lexer = BeginWithToken lexer.rest.now
