-- A text has no more pieces than twice its bytes, and two.
use Rattle.std.proofs.Common.{◌≤◌, ◌<◌, ◌^◌, ◌+◌, ◌*◌, ℕ, zero, suc, Bool, true, false, cond, List, [], ◌∷◌, length, arith, ◌==◌, ◌||◌}
use Rattle.trop_text.specs.Bytes.{is_line_feed, is_blank, is_hash, is_in_line}
use Rattle.std.specs.List.{prefix_len}
use Rattle.trop_text.specs.Tokens.{Tok, tokens_past, tokens_at, tokens_of, tail_len}
use Rattle.trop_text.specs.Pieces.{Piece, Token, LineEnd, ends_from, pieces_from, pieces_of}

three : (a b c : Bool) (x y z : List Tok) (t : Tok) (w : List Tok) (n : ℕ) → length x ≤ n → length y ≤ n →
    length z ≤ n → length w ≤ n → length (cond a x (cond b y (cond c z (t ∷ w)))) ≤ suc n
three true b c x y z t w n h k m q = omega arith
three false true c x y z t w n h k m q = omega arith
three false false true x y z t w n h k m q = omega arith
three false false false x y z t w n h k m q = omega arith

pub tokens_few : (bytes : List ℕ) (skip line column : ℕ) → length (tokens_past skip bytes line column) ≤ length bytes
unfolding tokens_past
tokens_few [] skip line column = omega arith
tokens_few (b ∷ bs) (suc skip) line column = let h = tokens_few bs skip line (column + 1) in omega arith
tokens_few (b ∷ bs) zero line column =
    three (is_line_feed b) (is_blank b) (is_hash b) _ _ _ _ _ (length bs) (tokens_few bs 0 (line + 1) 1)
    (tokens_few bs 0 line (column + 1)) (tokens_few bs (prefix_len is_in_line bs) line (column + 1))
    (tokens_few bs (tail_len b bs) line (column + 1))

ends_few : (line : ℕ) → length (ends_from line) ≤ 2
ends_few zero = omega arith
ends_few (suc line) = omega arith

step_few : (b : Bool) (p q : Piece) (ps : List Piece) (n : ℕ) → length ps ≤ n →
    length (cond b (p ∷ ps) (q ∷ p ∷ ps)) ≤ n + 2
step_few true p q ps n h = omega arith
step_few false p q ps n h = omega arith

pub pieces_few : (ts : List Tok) (line : ℕ) → length (pieces_from ts line) ≤ 2 * length ts + 2
unfolding pieces_from
pieces_few [] line = let h = ends_few line in omega arith
pieces_few (t ∷ ts) line = let h = step_few ((line == 0) || (t.line == line)) (Token t) (LineEnd line)
    (pieces_from ts t.line) (2 * length ts + 2) (pieces_few ts t.line) in omega (arith, h)

pub text_pieces_few : (bytes : List ℕ) → length (pieces_of bytes) ≤ 2 * length bytes + 2
text_pieces_few bytes = let h = pieces_few (tokens_of bytes) 0 in let k = tokens_few bytes 0 1 1 in omega (arith, h, k)

-- what a lexer has left
pub lexer_few : (rest : List ℕ) (line column : ℕ) (source : List ℕ) → length source ≤ 2 ^ 31 →
    line + length rest ≤ 1 + length source → length (pieces_from (tokens_at rest line column) 0) < 2 ^ 33
lexer_few rest line column source small fits =
    let h = pieces_few (tokens_at rest line column) 0 in
    let k = tokens_few rest 0 line column in
    omega (arith, h, k, small, fits)
