-- The line of `end` behind a printed program, wherever it begins.
-- Index: IsEndToken, end_token, next_line.
use Rattle.std.proofs.Common.{◌≡◌, ◌≢◌, ◌+◌, ℕ, List, [], ◌∷◌, ◌++◌, map, codes, refl, sym, ap, subst, ◌∙◌}
use Rattle.trop_text.specs.Tokens.{Tok, tokens_past}
use Rattle.trop_text.specs.Pieces.{Piece, Token, LineEnd, pieces_from}
use Rattle.trop_text.specs.declared.token.TokenKind.TheVariants.{Word}
use Rattle.trop_text.proofs.Written.{tok, AreOn, IsOne, IsLexed}
use Rattle.trop_text.proofs.WrittenTokens.{StopsWord, word_written}
use Rattle.trop_text.proofs.WrittenLines.{AreLines, lines_on}

-- the token of the word, and those of the next line
pub record IsEndToken (rest : List ℕ) (line place : ℕ) : Type 0 where
  pub token : Tok
  pub on : token.line ≡ line
  pub is : token.text ≡ codes "end"
  pub lexed : tokens_past 0 (codes "end\n" ++ rest) line place ≡ token ∷ tokens_past 0 rest (line + 1) 1

feed_step : (rest : List ℕ) (line place : ℕ) →
    tokens_past 0 (codes "\n" ++ rest) line place ≡ tokens_past 0 rest (line + 1) 1
unfolding tokens_past
feed_step rest line place = refl

lone : (ts : List Tok) (t : Tok) → map Token ts ≡ Token t ∷ [] → ts ≡ t ∷ []
lone [] t e = absurd cc
lone (u ∷ []) t e = let same : u ≡ t = cc in ap (λ (z : Tok). z ∷ []) same
lone (u ∷ v ∷ us) t e = absurd cc

from_lexed : (rest : List ℕ) (line place : ℕ) →
    IsLexed (codes "end") (codes "\n" ++ rest) line place (IsOne Word (codes "end")) → IsEndToken rest line place
from_lexed rest line place a =
    let t = tok Word (codes "end") a.is.line a.is.column in
    let same : a.tokens ≡ t ∷ [] = lone a.tokens t a.is.whole in
    let on = subst (AreOn line) same a.on in
    record {
      token = t;
      on = on.0;
      is = refl;
      lexed = a.lexed ∙ ap (λ (ts : List Tok). ts ++ tokens_past 0 (codes "\n" ++ rest) line (place + 3)) same
          ∙ ap (λ (ts : List Tok). t ∷ ts) (feed_step rest line (place + 3));
    }

pub end_token : (rest : List ℕ) (line place : ℕ) → IsEndToken rest line place
end_token rest line place =
    from_lexed rest line place ((word_written (codes "end") refl).at (codes "\n" ++ rest) line place refl)

-- ---- the end of a line

first_piece : (t : Tok) (ts : List Tok) → pieces_from (t ∷ ts) 0 ≡ Token t ∷ pieces_from ts t.line
unfolding pieces_from
first_piece t ts = refl

-- a token, and the end of its line
abbrev IsEnded : ℕ → List Piece → Type 0
IsEnded line us = (t : Tok) × (us ≡ Token t ∷ LineEnd line ∷ [])

none : IsOne Word (codes "end") [] → ⊥
none g = let e = g.whole in absurd cc

ended_line : (rest : List ℕ) (line : ℕ) → line ≢ 0 → AreLines (codes "end\n") rest line (line + 1) (IsEnded line)
ended_line rest line numbered =
    lines_on {S = StopsWord} {G = IsOne Word (codes "end")} {H = IsEnded line} {text = codes "end"} rest line numbered
    refl none
    (λ ts on g. (tok Word (codes "end") g.line g.column, ap (λ (ps : List Piece). ps ++ LineEnd line ∷ []) g.whole))
    (word_written (codes "end") refl)

tails : (t u : Tok) (ps qs : List Piece) → Token t ∷ ps ≡ Token u ∷ qs → ps ≡ qs
tails t u ps qs e = cc

-- before the tokens of the next line a line that was begun ends
pub next_line : (rest : List ℕ) (line : ℕ) → line ≢ 0 →
    pieces_from (tokens_past 0 rest (line + 1) 1) line ≡
    LineEnd line ∷ pieces_from (tokens_past 0 rest (line + 1) 1) 0
next_line rest line numbered =
    let later = tokens_past 0 rest (line + 1) 1 in
    let e = end_token rest line 1 in
    let a = ended_line rest line numbered in
    let u = a.are.0 in
    tails e.token u (pieces_from later line) (LineEnd line ∷ pieces_from later 0)
    (ap (λ (n : ℕ). Token e.token ∷ pieces_from later n) (sym e.on) ∙ sym (first_piece e.token later)
    ∙ ap (λ (ts : List Tok). pieces_from ts 0) (sym e.lexed) ∙ a.read
    ∙ ap (λ (ps : List Piece). ps ++ pieces_from later 0) a.are.1)
