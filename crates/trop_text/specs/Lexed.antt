-- What the tokens of a text are, with no order of work: the longest words, digits and signs outside of comments, and
-- the bytes that begin none; all other bytes are blanks, line feeds and comments.
use Rattle.std.specs.Prelude.{◌≡◌, ◌≢◌, ◌≤◌, ℕ, Bool, true, false, ◌||◌, List, [], ◌∷◌, ◌++◌, length, reverse}
use Rattle.std.specs.List.{list_any, list_all, take_while}
use Rattle.std.specs.Str.{bytes_eq}
use Rattle.trop_text.specs.Bytes.{is_digit, is_blank, is_line_feed, is_in_line, is_hash}
use Rattle.trop_text.specs.Name.{is_word}
use Rattle.trop_text.specs.Lines.{line_of, column_of}
use Rattle.trop_text.specs.Tokens.{Tok, long_signs, short_signs}
use Rattle.trop_text.specs.declared.token.TokenKind.{TokenKind}
use Rattle.trop_text.specs.declared.token.TokenKind.TheVariants.{Word, Digits, Sign, Bad}

abbrev pub is_sign : List ℕ → Bool
is_sign text = list_any (bytes_eq text) long_signs || list_any (bytes_eq text) short_signs

-- one digit or more
abbrev pub are_digits : List ℕ → Bool
are_digits [] = false
are_digits (b ∷ bs) = list_all is_digit (b ∷ bs)

-- whether a word, a number or a sign has this text
abbrev pub is_token_text : List ℕ → Bool
is_token_text text = is_word text || are_digits text || is_sign text

abbrev pub IsTextOf : TokenKind → List ℕ → Type 0
IsTextOf Word text = is_word text ≡ true
IsTextOf Digits text = are_digits text ≡ true
IsTextOf Sign text = is_sign text ≡ true
IsTextOf Bad text = length text ≡ 1

-- Before the bytes after, the text of a token of this kind is the longest with which they begin together. A bad token
-- is a byte with which they begin no token text.
pub record IsLongest (kind : TokenKind) (text after : List ℕ) : Type 0 where
  pub is : IsTextOf kind text
  pub longest : (front back : List ℕ) → text ++ after ≡ front ++ back → is_token_text front ≡ true →
      (kind ≢ Bad) × (length front ≤ length text)

-- the bytes of the last line of these, up to its end
abbrev pub in_last_line : List ℕ → List ℕ
in_last_line before = take_while is_in_line (reverse before)

-- whether the byte behind these is one of a comment: a `#` stands before it in its line
abbrev pub in_comment : List ℕ → Bool
in_comment before = list_any is_hash (in_last_line before)

-- a byte behind these that belongs to no token
abbrev pub is_apart : List ℕ → ℕ → Bool
is_apart before b = is_line_feed b || is_blank b || is_hash b || in_comment before

-- bytes behind these, none of which belongs to a token
abbrev pub IsGap : List ℕ → List ℕ → Type 0
IsGap before [] = Unit {0}
IsGap before (b ∷ bs) = (is_apart before b ≡ true) × IsGap (before ++ b ∷ []) bs

-- the first token of the bytes rest, which stand behind the bytes before, with its place in the whole
pub record IsFirstToken (before rest : List ℕ) (t : Tok) : Type 0 where
  pub gap : List ℕ
  pub after : List ℕ
  pub whole : rest ≡ gap ++ (t.text ++ after)
  pub apart : IsGap before gap
  pub outside : in_comment (before ++ gap) ≡ false
  pub line : t.line ≡ line_of (before ++ gap)
  pub column : t.column ≡ column_of (before ++ gap)
  pub longest : IsLongest t.kind t.text after

-- the tokens of the bytes rest, which stand behind the bytes before
abbrev pub AreTokens : List ℕ → List ℕ → List Tok → Type 0
AreTokens before rest [] = IsGap before rest
AreTokens before rest (t ∷ ts) = (first : IsFirstToken before rest t)
    × AreTokens (before ++ first.gap ++ t.text) first.after ts
