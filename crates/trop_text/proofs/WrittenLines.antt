-- Whole lines by the pieces that they are read as: the tokens of each line, and its end.
-- Index: AreLater, HasToken, AreLines, lines_none, lines_on, lines_one, lines_join, lines_as, lines_whole, line_whole.
use Rattle.std.proofs.Common.{◌≡◌, ◌≢◌, ◌⊎◌, inl, inr, ◌<◌, ◌+◌, ◌||◌, ℕ, zero, suc, Bool, true, false, List, [], ◌∷◌, ◌++◌, map, length, refl, sym, ap, ◌∙◌, arith, nat_eq, eq-eqb, append_assoc, append-nil}
use Rattle.std.proofs.lemmas.Bool.{or_left, or_right, ne_eqb}
use Rattle.std.specs.Prelude.{codes}
use Rattle.std.specs.List.{prefix_len}
use Rattle.trop_text.specs.Bytes.{is_line_feed, is_in_line, is_blank, is_hash}
use Rattle.trop_text.specs.Tokens.{Tok, tokens_past, tokens_at}
use Rattle.trop_text.specs.Pieces.{Piece, Token, LineEnd, InputEnd, pieces_from, pieces_of}
use Rattle.trop_text.proofs.Written.{AreOn, IsWritten}

-- ---- tokens of later lines

-- the first token, if there is one, is of a later line
abbrev pub AreLater : ℕ → List Tok → Type 0
AreLater line [] = Unit {0}
AreLater line (t ∷ ts) = line < t.line

-- one byte more, before tokens that are later
later_step : (b : ℕ) (bs : List ℕ) (line at column : ℕ) → line < at → AreLater line (tokens_past 0 bs (at + 1) 1) →
    AreLater line (tokens_past 0 bs at (column + 1))
    → AreLater line (tokens_past (prefix_len is_in_line bs) bs at (column + 1)) →
    AreLater line (tokens_past 0 (b ∷ bs) at column)
unfolding tokens_past
later_step b bs line at column h feed blank comment = by_feed (is_line_feed b) refl
  where
    by_hash : (x : Bool) → is_hash b ≡ x → is_line_feed b ≡ false → is_blank b ≡ false →
        AreLater line (tokens_past zero (b ∷ bs) at column)
    by_hash true e no_end no_blank = rw (no_end, no_blank, e) comment
    by_hash false e no_end no_blank = rw (no_end, no_blank, e) h

    by_blank : (x : Bool) → is_blank b ≡ x → is_line_feed b ≡ false →
        AreLater line (tokens_past zero (b ∷ bs) at column)
    by_blank true e no_end = rw (no_end, e) blank
    by_blank false e no_end = by_hash (is_hash b) refl no_end e

    by_feed : (x : Bool) → is_line_feed b ≡ x → AreLater line (tokens_past zero (b ∷ bs) at column)
    by_feed true e = rw e feed
    by_feed false e = by_blank (is_blank b) refl e

-- tokens stand in the line where the bytes begin, or behind it
tokens_later : (n : ℕ) (bytes : List ℕ) (line at column : ℕ) → line < at → AreLater line (tokens_past n bytes at column)
unfolding tokens_past
tokens_later zero [] line at column h = tt
tokens_later (suc n) [] line at column h = tt
tokens_later (suc n) (b ∷ bs) line at column h = tokens_later n bs line at (column + 1) h
tokens_later zero (b ∷ bs) line at column h =
    later_step b bs line at column h (tokens_later zero bs line (at + 1) 1 (omega arith))
    (tokens_later zero bs line at (column + 1) h)
    (tokens_later (prefix_len is_in_line bs) bs line at (column + 1) h)

-- ---- the pieces of a line

-- no line was begun, or this one
abbrev Begun : ℕ → ℕ → Type 0
Begun line begun = (begun ≡ 0) ⊎ (begun ≡ line)

in_begun : (at line begun : ℕ) → at ≡ line → Begun line begun → (nat_eq begun 0 || nat_eq at begun) ≡ true
in_begun at line begun on (inl e) = or_left (nat_eq begun 0) (nat_eq at begun) (eq-eqb begun 0 e)
in_begun at line begun on (inr e) = or_right (nat_eq begun 0) (nat_eq at begun) (eq-eqb at begun (on ∙ sym e))

-- where the next token is of a later line, the line ends
end_piece : (ts : List Tok) (line : ℕ) → line ≢ 0 → AreLater line ts →
    pieces_from ts line ≡ LineEnd line ∷ pieces_from ts 0
unfolding pieces_from
end_piece [] zero numbered later = absurd (numbered refl)
end_piece [] (suc line) numbered later = refl
end_piece (t ∷ ts) line numbered later = rw (ne_eqb line 0 numbered, ne_eqb t.line line (λ e. absurd (omega arith)))
    refl

token_pieces : (tokens ts : List Tok) (line begun : ℕ) → AreOn line tokens → Begun line begun → tokens ≢ [] →
    pieces_from (tokens ++ ts) begun ≡ map Token tokens ++ pieces_from ts line
unfolding pieces_from
token_pieces [] ts line begun on h some = absurd (some refl)
token_pieces (t ∷ []) ts line begun on h some = rw (in_begun t.line line begun on.0 h)
    (ap (λ at. Token t ∷ pieces_from ts at) on.0)
token_pieces (t ∷ u ∷ tokens) ts line begun on h some =
    rw (in_begun t.line line begun on.0 h) (ap (λ ps. Token t ∷ ps)
    (token_pieces (u ∷ tokens) ts line t.line on.1 (inr on.0) (λ e. cc)))

-- the tokens of a line, and its end
line_pieces : (tokens ts : List Tok) (line : ℕ) → AreOn line tokens → tokens ≢ [] → line ≢ 0 → AreLater line ts →
    pieces_from (tokens ++ ts) 0 ≡ map Token tokens ++ LineEnd line ∷ pieces_from ts 0
line_pieces tokens ts line on some numbered later =
    token_pieces tokens ts line 0 on (inl refl) some ∙ ap (λ ps. map Token tokens ++ ps)
    (end_piece ts line numbered later)

feed_step : (rest : List ℕ) (line column : ℕ) → tokens_at (codes "\n" ++ rest) line column ≡ tokens_at rest (line + 1) 1
unfolding tokens_past
feed_step rest line column = refl

none_left : (line column : ℕ) → tokens_at [] line column ≡ []
unfolding tokens_past
none_left line column = refl

input_end : pieces_from [] 0 ≡ InputEnd ∷ []
unfolding pieces_from
input_end = refl

-- a text that has a token
abbrev pub HasToken : (List Piece → Type 0) → Type 0
HasToken G = G [] → ⊥

some_token : (G : List Piece → Type 0) (tokens : List Tok) → HasToken G → G (map Token tokens) → tokens ≢ []
some_token G [] has is e = has is
some_token G (t ∷ tokens) has is e = cc

-- ---- whole lines

-- Whole lines, of which the first has this number, before the bytes rest, which begin in the line `next`: G holds of
-- their pieces.
pub record AreLines (text rest : List ℕ) (line next : ℕ) (G : List Piece → Type 0) : Type 0 where
  pub pieces : List Piece
  pub read : pieces_from (tokens_at (text ++ rest) line 1) 0 ≡ pieces ++ pieces_from (tokens_at rest next 1) 0
  pub are : G pieces

-- no line
pub lines_none : {G : List Piece → Type 0} (rest : List ℕ) (line : ℕ) → G [] → AreLines [] rest line line G
lines_none rest line is = record { pieces = []; read = refl; are = is }

-- a line and the byte that ends it, where the tokens are known to be of this line
pub lines_on : {S : List ℕ → Type 0} {G H : List Piece → Type 0} {text : List ℕ} (rest : List ℕ) (line : ℕ) → line ≢ 0 →
    S (codes "\n" ++ rest) → HasToken G → ((ts : List Tok) → AreOn line ts → G (map Token ts) →
    H (map Token ts ++ LineEnd line ∷ []))
    → IsWritten S text G → AreLines (text ++ codes "\n") rest line (line + 1) H
lines_on {S} {G} {H} {text} rest line numbered stops has to g =
    let a = g.at (codes "\n" ++ rest) line 1 stops in
    let feed = feed_step rest line (1 + length text) in
    let later : AreLater line (tokens_at rest (line + 1) 1) = tokens_later 0 rest line (line + 1) 1 (omega arith) in
    record {
      pieces = map Token a.tokens ++ LineEnd line ∷ [];
      read =
          ap (λ bytes. pieces_from (tokens_at bytes line 1) 0) (append_assoc text (codes "\n") rest)
          ∙ ap (λ ts. pieces_from ts 0) (a.lexed ∙ ap (λ ts. a.tokens ++ ts) feed)
          ∙ line_pieces a.tokens (tokens_at rest (line + 1) 1) line a.on (some_token G a.tokens has a.is) numbered later
          ∙ sym (append_assoc (map Token a.tokens) (LineEnd line ∷ []) (pieces_from (tokens_at rest (line + 1) 1) 0));
      are = to a.tokens a.on a.is;
    }

-- a line and the byte that ends it
pub lines_one : {S : List ℕ → Type 0} {G H : List Piece → Type 0} {text : List ℕ} (rest : List ℕ) (line : ℕ) →
    line ≢ 0 → S (codes "\n" ++ rest) → HasToken G → ((us : List Piece) → G us → H (us ++ LineEnd line ∷ []))
    → IsWritten S text G → AreLines (text ++ codes "\n") rest line (line + 1) H
lines_one {S} {G} {H} {text} rest line numbered stops has to g =
    lines_on rest line numbered stops has (λ ts on is. to (map Token ts) is) g

-- lines behind others
pub lines_join : {G H K : List Piece → Type 0} {text more rest : List ℕ} {line mid next : ℕ} →
    ((us vs : List Piece) → G us → H vs → K (us ++ vs))
    → AreLines text (more ++ rest) line mid G → AreLines more rest mid next H → AreLines (text ++ more) rest line next K
lines_join {G} {H} {K} {text} {more} {rest} {line} {mid} {next} join a b = record {
  pieces = a.pieces ++ b.pieces;
  read =
      ap (λ bytes. pieces_from (tokens_at bytes line 1) 0) (append_assoc text more rest)
      ∙ a.read ∙ ap (λ ps. a.pieces ++ ps) b.read ∙ sym
      (append_assoc a.pieces b.pieces (pieces_from (tokens_at rest next 1) 0));
  are = join a.pieces b.pieces a.are b.are;
}

-- what follows from G
pub lines_as : {G H : List Piece → Type 0} {text rest : List ℕ} {line next : ℕ} → ((us : List Piece) → G us → H us) →
    AreLines text rest line next G → AreLines text rest line next H
lines_as to a = record { pieces = a.pieces; read = a.read; are = to a.pieces a.are }

-- lines that are a whole text
pub lines_whole : (H : List Piece → Type 0) {G : List Piece → Type 0} {text : List ℕ} {next : ℕ} →
    ((us : List Piece) → G us → H (us ++ InputEnd ∷ [])) → AreLines text [] 1 next G → H (pieces_of text)
lines_whole H {G} {text} {next} to a =
    let whole : pieces_of text ≡ a.pieces ++ InputEnd ∷ [] =
    ap (λ bytes. pieces_from (tokens_at bytes 1 1) 0) (sym (append-nil text)) ∙ a.read
    ∙ ap (λ ts. a.pieces ++ pieces_from ts 0) (none_left next 1) ∙ ap (λ ps. a.pieces ++ ps) input_end in
    rw whole (to a.pieces a.are)

-- a text of one line, which no byte ends
pub line_whole : (H : List Piece → Type 0) {S : List ℕ → Type 0} {G : List Piece → Type 0} {text : List ℕ} → S [] →
    HasToken G → ((us : List Piece) → G us → H (us ++ LineEnd 1 ∷ InputEnd ∷ [])) → IsWritten S text G →
    H (pieces_of text)
line_whole H {S} {G} {text} stops has to g =
    let a = g.at [] 1 1 stops in
    let whole : pieces_of text ≡ map Token a.tokens ++ LineEnd 1 ∷ InputEnd ∷ [] =
    ap (λ bytes. pieces_from (tokens_at bytes 1 1) 0) (sym (append-nil text)) ∙ ap (λ ts. pieces_from ts 0)
    (a.lexed ∙ ap (λ ts. a.tokens ++ ts) (none_left 1 (1 + length text)))
    ∙ line_pieces a.tokens [] 1 a.on (some_token G a.tokens has a.is) (λ e. absurd (omega arith)) tt
    ∙ ap (λ ps. map Token a.tokens ++ LineEnd 1 ∷ ps) input_end in
    rw whole (to (map Token a.tokens) a.is)
