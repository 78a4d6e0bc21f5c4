-- The tokens of a text, from left to right.
use Rattle.std.specs.Prelude.{ℕ, zero, suc, ◌+◌, ◌-◌, Bool, List, [], ◌∷◌, take, codes, if◌then◌else◌, ◌==◌}
use Rattle.std.specs.List.{list_any, prefix_len}
use Rattle.std.specs.Str.{bytes_eq}
use Rattle.trop_text.specs.Bytes.{is_letter, is_digit, is_word_byte, is_blank, is_line_feed, is_in_line, is_hash}
use Rattle.trop_text.specs.declared.token.TokenKind.{TokenKind}
use Rattle.trop_text.specs.declared.token.TokenKind.TheVariants.{Word, Digits, Sign, Bad}

-- a token and its place; lines and columns count from 1
pub record Tok : Type 0 where
  pub kind : TokenKind
  pub text : List ℕ
  pub line : ℕ
  pub column : ℕ

-- the signs of two bytes, and those of one
abbrev pub long_signs : List (List ℕ)
long_signs =
    codes "<=" ∷ codes ">=" ∷ codes "==" ∷ codes "!=" ∷ codes ":=" ∷ codes "=>" ∷ codes "&&" ∷ codes "||" ∷ []

abbrev pub short_signs : List (List ℕ)
short_signs =
    codes "<" ∷ codes ">" ∷ codes "=" ∷ codes "!" ∷ codes "?" ∷ codes "(" ∷ codes ")" ∷ codes "[" ∷ codes "]"
    ∷ codes "{" ∷ codes "}" ∷ codes "," ∷ codes ";" ∷ codes "+" ∷ codes "-" ∷ []

abbrev pub is_long_sign : ℕ → ℕ → Bool
is_long_sign b c = list_any (bytes_eq (b ∷ c ∷ [])) long_signs

abbrev pub is_short_sign : ℕ → Bool
is_short_sign b = list_any (bytes_eq (b ∷ [])) short_signs

-- the length of the longest sign with which the bytes b ∷ bs begin, and 0 where they begin with none
unfoldable pub sign_len : ℕ → List ℕ → ℕ
sign_len b [] = if is_short_sign b then 1 else 0
sign_len b (c ∷ bs) = if is_long_sign b c then 2 else (if is_short_sign b then 1 else 0)

-- the kind of the token that begins with b, before bs
abbrev pub kind_of : ℕ → List ℕ → TokenKind
kind_of b bs = if is_letter b then Word else (if is_digit b then Digits else (if sign_len b bs == 0 then Bad else Sign))

-- How many bytes follow b in the same token, which is as long as possible. A byte that begins no token is one alone.
unfoldable pub tail_len : ℕ → List ℕ → ℕ
tail_len b bs = if is_letter b then prefix_len is_word_byte bs else
    (if is_digit b then prefix_len is_digit bs else sign_len b bs - 1)

-- The tokens of the bytes past the first `skip`, which are the rest of a token or of a comment.
unfoldable pub tokens_past : ℕ → List ℕ → ℕ → ℕ → List Tok
tokens_past skip [] line column = []
tokens_past (suc skip) (b ∷ bs) line column = tokens_past skip bs line (column + 1)
tokens_past zero (b ∷ bs) line column =
    if is_line_feed b then tokens_past 0 bs (line + 1) 1
    else (if is_blank b then tokens_past 0 bs line (column + 1)
    else (if is_hash b then tokens_past (prefix_len is_in_line bs) bs line (column + 1)
    else (record { kind = kind_of b bs; text = b ∷ take (tail_len b bs) bs; line = line; column = column } ∷ tokens_past
    (tail_len b bs) bs line (column + 1))))

-- the tokens of what is left of a text, from a place on
abbrev pub tokens_at : List ℕ → ℕ → ℕ → List Tok
tokens_at bytes line column = tokens_past 0 bytes line column

-- the tokens of a text
abbrev pub tokens_of : List ℕ → List Tok
tokens_of bytes = tokens_at bytes 1 1
