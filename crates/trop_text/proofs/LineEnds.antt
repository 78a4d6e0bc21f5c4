-- Where a line ends.
use Rattle.std.proofs.Common.{◌≡◌, ◌≢◌, ◌⊎◌, inl, inr, ◌||◌, ap, ℕ, zero, suc, Bool, true, false, List, [], ◌∷◌, refl, sym, ◌∙◌, nat_eq, true≢false, eq-eqb}
use Rattle.std.proofs.lemmas.Bool.{or_left, or_right, ne_eqb}
use borrow.Author.Tests.{eqb-true}
use Rattle.trop_text.proofs.Signs.{or_cases}
use Rattle.trop_text.specs.Tokens.{Tok, tokens_at, tokens_past}
use Rattle.trop_text.specs.Lexer.{BeginWithToken}
use Rattle.trop_text.specs.Pieces.{LineEnd, ends_from, pieces_from, tokens_in, AreByLine}

-- the first token is of another line than the one that was begun
other_line : (t : Tok) (ts : List Tok) (line : ℕ) → nat_eq line 0 ≡ false → nat_eq t.line line ≡ false →
    pieces_from (t ∷ ts) line ≡ LineEnd line ∷ pieces_from (t ∷ ts) 0
unfolding pieces_from
other_line t ts line begun other = rw (begun, other) refl

-- at a token, where none is left, or that is of another line than the one that was begun, that line is at its end
pub line_over : (rest : List ℕ) (at column line : ℕ) → BeginWithToken rest → line ≢ 0 → (rest ≡ []) ⊎ (at ≢ line)
    → pieces_from (tokens_at rest at column) line ≡ LineEnd line ∷ pieces_from (tokens_at rest at column) 0
unfolding tokens_past pieces_from
line_over [] at column zero begins begun why = absurd (begun refl)
line_over [] at column (suc line) begins begun why = refl
line_over (b ∷ bs) at column line begins begun (inl none) = absurd cc
line_over (b ∷ bs) at column line begins begun (inr other) =
    rw (begins.0, begins.1, begins.2) (other_line _ _ line (ne_eqb line 0 begun) (ne_eqb at line other))

no_token_behind : (line : ℕ) → tokens_in (ends_from line) ≡ []
no_token_behind zero = refl
no_token_behind (suc line) = refl

-- the pieces have the tokens, all and in order
pub tokens_stay : (ts : List Tok) (line : ℕ) → tokens_in (pieces_from ts line) ≡ ts
unfolding pieces_from
tokens_stay [] line = no_token_behind line
tokens_stay (t ∷ ts) line = by (nat_eq line 0 || nat_eq t.line line) refl (tokens_stay ts t.line)
  where
    by : (b : Bool) → (nat_eq line 0 || nat_eq t.line line) ≡ b → tokens_in (pieces_from ts t.line) ≡ ts →
        tokens_in (pieces_from (t ∷ ts) line) ≡ t ∷ ts
    by true e rest = rw e (ap (λ (us : List Tok). t ∷ us) rest)
    by false e rest = rw e (ap (λ (us : List Tok). t ∷ us) rest)

ends_by_line : (line : ℕ) → AreByLine line (ends_from line)
ends_by_line zero = (refl, refl)
ends_by_line (suc line) = (refl, (λ e. absurd cc), tt, (refl, refl))

in_this_line : (line at : ℕ) → (nat_eq line 0 || nat_eq at line) ≡ true → (line ≡ 0) ⊎ (at ≡ line)
in_this_line line at h = by (or_cases (nat_eq line 0) (nat_eq at line) h)
  where
    by : (nat_eq line 0 ≡ true) ⊎ (nat_eq at line ≡ true) → (line ≡ 0) ⊎ (at ≡ line)
    by (inl e) = inl (eqb-true line 0 e)
    by (inr e) = inr (eqb-true at line e)

in_other_line : (line at : ℕ) → (nat_eq line 0 || nat_eq at line) ≡ false → (line ≢ 0) × (at ≢ line)
in_other_line line at h = (
  λ e. true≢false (sym (or_left (nat_eq line 0) (nat_eq at line) (eq-eqb line 0 e)) ∙ h),
  λ e. true≢false (sym (or_right (nat_eq line 0) (nat_eq at line) (eq-eqb at line e)) ∙ h),
)

-- and the ends of lines stand where they must
pub pieces_by_line : (ts : List Tok) (line : ℕ) → AreByLine line (pieces_from ts line)
unfolding pieces_from
pieces_by_line [] line = ends_by_line line
pieces_by_line (t ∷ ts) line = by (nat_eq line 0 || nat_eq t.line line) refl (pieces_by_line ts t.line)
  where
    by : (b : Bool) → (nat_eq line 0 || nat_eq t.line line) ≡ b → AreByLine t.line (pieces_from ts t.line) →
        AreByLine line (pieces_from (t ∷ ts) line)
    by true e rest = rw e (in_this_line line t.line e, rest)
    by false e rest =
        let other = in_other_line line t.line e in
        rw e (refl, other.0, other.1, (inl refl, rest))
