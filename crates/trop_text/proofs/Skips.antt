-- Past the rest of a token or of a comment.
use Rattle.std.proofs.Common.{◌≡◌, ◌≤◌, ◌+◌, ℕ, zero, suc, List, [], ◌∷◌, length, take, drop, false, add-one, refl, ap, ◌∙◌, arith}
use Rattle.trop_text.specs.Bytes.{is_line_feed, is_blank, is_hash}
use Rattle.trop_text.specs.Tokens.{kind_of, tail_len, tokens_past}

pub tokens_skip : (n : ℕ) (bs : List ℕ) (line column : ℕ) → n ≤ length bs →
    tokens_past n bs line column ≡ tokens_past 0 (drop n bs) line (column + n)
unfolding tokens_past
tokens_skip zero bs line column le = let e : column ≡ column + 0 = omega arith in ap (λ k. tokens_past 0 bs line k) e
tokens_skip (suc n) [] line column le = absurd (omega arith)
tokens_skip (suc n) (b ∷ bs) line column le =
    let e : column + 1 + n ≡ column + suc n = omega arith in
    tokens_skip n bs line (column + 1) (omega arith) ∙ ap (λ k. tokens_past 0 (drop n bs) line k) e

-- the token with which the bytes b ∷ after begin, and what is left behind it
pub token_step : (bs after front back : List ℕ) (b n line column : ℕ) → bs ≡ b ∷ after → is_line_feed b ≡ false →
    is_blank b ≡ false → is_hash b ≡ false
    → n ≡ tail_len b after → n ≤ length after → front ≡ take (n + 1) bs → back ≡ drop (n + 1) bs
    → tokens_past 0 bs line column ≡ record { kind = kind_of b after; text = front; line = line; column = column }
    ∷ tokens_past 0 back line (column + 1 + n)
unfolding tokens_past
token_step bs after front back b n line column whole no_end no_blank no_comment n_is within front_is back_is =
    let f : front ≡ b ∷ take n after = front_is ∙ ap (take (n + 1)) whole ∙ ap (λ k. take k (b ∷ after)) (add-one n) in
    let g : back ≡ drop n after = back_is ∙ ap (drop (n + 1)) whole ∙ ap (λ k. drop k (b ∷ after)) (add-one n) in
    let skip = tokens_skip n after line (column + 1) within in
    rw (whole, no_end, no_blank, no_comment, f, g, ← n_is, ← skip) refl
