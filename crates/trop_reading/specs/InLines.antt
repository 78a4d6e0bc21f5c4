-- Parts that end their line, and texts of a single line.
use Rattle.std.specs.Prelude.{◌≡◌, ◌++◌, ℕ, List, [], ◌∷◌}
use Rattle.trop_text.specs.Tokens.{Tok}
use Rattle.trop_text.specs.Pieces.{Piece, InputEnd, pieces_of, pieces_from}

-- The text is one line that spells x in the grammar G, where G takes in the end of the line, and nothing else.
pub record IsOnlyLine {A : Type 0} (G : List Piece → A → Type 0) (text : List ℕ) (x : A) : Type 0 where
  pub front : List Piece
  pub whole : pieces_of text ≡ front ++ InputEnd ∷ []
  pub line : G front x

-- Of the tokens `old`, which are in this line or behind it, the first ones and the end of the line spell x; the others
-- are the tokens `new`.
pub record IsReadInLine {A : Type 0} (R : List Piece → A → Type 0) (line : ℕ) (old : List Tok) (x : A)
    (new : List Tok) : Type 0 where
  pub front : List Piece
  pub whole : pieces_from old line ≡ front ++ pieces_from new 0
  pub is : R front x
