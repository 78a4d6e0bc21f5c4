-- Texts of one line by the tokens that they are read as, and how such texts are put together.
use Rattle.std.proofs.Common.{◌≡◌, ◌+◌, ℕ, List, [], ◌∷◌, ◌++◌, map, length, sym, ap, ◌∙◌, subst, arith, append_assoc, length-append}
use Rattle.std.proofs.lemmas.List.{map-append}
use Rattle.trop_text.specs.Tokens.{Tok, tokens_past}
use Rattle.trop_text.specs.Pieces.{Piece, Token}
use Rattle.trop_text.specs.declared.token.TokenKind.{TokenKind}

-- each token stands in this line
abbrev pub AreOn : ℕ → List Tok → Type 0
AreOn line [] = Unit {0}
AreOn line (t ∷ ts) = (t.line ≡ line) × AreOn line ts

-- The tokens of a text that stands before the bytes rest, from a place on: they are of that line, and G holds of them.
pub record IsLexed (text rest : List ℕ) (line column : ℕ) (G : List Piece → Type 0) : Type 0 where
  pub tokens : List Tok
  pub lexed : tokens_past 0 (text ++ rest) line column ≡ tokens ++ tokens_past 0 rest line (column + length text)
  pub on : AreOn line tokens
  pub is : G (map Token tokens)

-- Wherever the text stands before bytes of which Stops holds, G holds of its tokens.
pub record IsWritten (Stops : List ℕ → Type 0) (text : List ℕ) (G : List Piece → Type 0) : Type 0 where
  pub at : (rest : List ℕ) (line column : ℕ) → Stops rest → IsLexed text rest line column G

-- a token of this kind and text at this place
abbrev pub tok : TokenKind → List ℕ → ℕ → ℕ → Tok
tok kind text line column = record { kind = kind; text = text; line = line; column = column }

-- one token, of this kind and text
pub record IsOne (kind : TokenKind) (text : List ℕ) (us : List Piece) : Type 0 where
  pub line : ℕ
  pub column : ℕ
  pub whole : us ≡ Token (tok kind text line column) ∷ []

AreOn-append : (line : ℕ) (ts us : List Tok) → AreOn line ts → AreOn line us → AreOn line (ts ++ us)
AreOn-append line [] us h k = k
AreOn-append line (t ∷ ts) us h k = (h.0, AreOn-append line ts us h.1 k)

-- one text behind another
pub written_join : {S T : List ℕ → Type 0} {text more : List ℕ} {G H K : List Piece → Type 0} →
    ((us vs : List Piece) → G us → H vs → K (us ++ vs)) → ((rest : List ℕ) → T rest → S (more ++ rest)) →
    IsWritten S text G → IsWritten T more H → IsWritten T (text ++ more) K
written_join {S} {T} {text} {more} {G} {H} {K} join stops g h = record { at = at }
  where
    at : (rest : List ℕ) (line column : ℕ) → T rest → IsLexed (text ++ more) rest line column K
    at rest line column t =
        let a = g.at (more ++ rest) line column (stops rest t) in
        let b = h.at rest line (column + length text) t in
        let place : column + length text + length more ≡ column + length (text ++ more) =
        omega (arith, length-append text more) in
        record {
          tokens = a.tokens ++ b.tokens;
          lexed = ap (λ bytes. tokens_past 0 bytes line column) (append_assoc text more rest) ∙ a.lexed
              ∙ ap (λ ts. a.tokens ++ ts) (b.lexed ∙ ap (λ c. b.tokens ++ tokens_past 0 rest line c) place)
              ∙ sym (append_assoc a.tokens b.tokens _);
          on = AreOn-append line a.tokens b.tokens a.on b.on;
          is = subst K (sym (map-append Token a.tokens b.tokens))
              (join (map Token a.tokens) (map Token b.tokens) a.is b.is);
        }

-- what follows from G, before what stops more
pub written_as : {S T : List ℕ → Type 0} {text : List ℕ} {G H : List Piece → Type 0} →
    ((us : List Piece) → G us → H us) → ((rest : List ℕ) → T rest → S rest) → IsWritten S text G → IsWritten T text H
written_as {S} {T} {text} {G} {H} to stops g = record { at = at }
  where
    at : (rest : List ℕ) (line column : ℕ) → T rest → IsLexed text rest line column H
    at rest line column t = let a = g.at rest line column (stops rest t) in
        record { tokens = a.tokens; lexed = a.lexed; on = a.on; is = to (map Token a.tokens) a.is }
