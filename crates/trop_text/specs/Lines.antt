-- Lines, and places in a text: lines and columns count from 1, and a column counts bytes.
use Rattle.std.specs.Prelude.{◌≡◌, true, ℕ, zero, suc, ◌+◌, ◌-◌, List, [], ◌∷◌, ◌++◌, length, reverse, count_by, if◌then◌else◌, Option, None, Some, slice_get}
use Rattle.std.specs.List.{prefix_len}
use Rattle.trop_text.specs.Bytes.{is_line_feed, is_in_line}

-- the line and the column of the byte that follows these
abbrev pub line_of : List ℕ → ℕ
line_of before = 1 + count_by is_line_feed before

-- one more than the number of bytes behind the last line feed
abbrev pub column_of : List ℕ → ℕ
column_of before = 1 + prefix_len is_in_line (reverse before)

-- 1 where a last byte is there and ends no line
abbrev pub unended : Option ℕ → ℕ
unended None = 0
unended (Some b) = if is_line_feed b then 0 else 1

-- the number of lines: that of line feeds, and one more where bytes follow the last
abbrev pub line_count : List ℕ → ℕ
line_count bytes = count_by is_line_feed bytes + unended (slice_get bytes (length bytes - 1))

-- what follows the first k line feeds
unfoldable pub past_lines : ℕ → List ℕ → List ℕ
past_lines zero bytes = bytes
past_lines (suc k) [] = []
past_lines (suc k) (b ∷ bs) = if is_line_feed b then past_lines k bs else past_lines (suc k) bs

-- one more than the number of bytes of that line, its line feed not counted
abbrev pub end_column : List ℕ → ℕ → ℕ
end_column bytes line = 1 + prefix_len is_in_line (past_lines (line - 1) bytes)

-- a line feed, or the end
abbrev pub BeginsWithFeed : List ℕ → Type 0
BeginsWithFeed [] = Unit {0}
BeginsWithFeed (b ∷ bs) = is_line_feed b ≡ true

-- at this line and column stands what ends the line: its line feed, or the end of the text
pub record EndsLine (bytes : List ℕ) (line column : ℕ) : Type 0 where
  pub before : List ℕ
  pub rest : List ℕ
  pub whole : bytes ≡ before ++ rest
  pub line_is : line ≡ line_of before
  pub column_is : column ≡ column_of before
  pub ends : BeginsWithFeed rest
