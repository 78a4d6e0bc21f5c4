-- What stands before a piece, and what is left behind it.
use Rattle.std.proofs.Common.{◌≡◌, ◌≤◌, ◌<◌, ◌+◌, ◌^◌, ◌&&◌, ℕ, Bool, true, false, cond, List, [], ◌∷◌, ◌++◌, length, length-append, codes, refl, sym, ap, ◌∙◌, arith}
use Rattle.std.specs.Str.{bytes_eq}
use Rattle.trop_text.specs.Tokens.{Tok}
use Rattle.trop_text.specs.Pieces.{Piece, Token, LineEnd, InputEnd, pieces_from}
use Rattle.shape_grammar.specs.Past.{past}
use Rattle.prog_texts.proofs.Runs.{ended_keeps}
use Rattle.prog_texts.specs.Words.{Before, Counted, skipped, one_more, commas_after, behind, counted}

past_from : (b : Before) (ts : List Tok) → past skipped (counted b (pieces_from ts 0)) ≡ counted b (pieces_from ts 0)
unfolding past counted pieces_from
past_from b [] = refl
past_from b (t ∷ ts) = refl

pub past_line : (b : Before) (line : ℕ) (old ps : List Piece) (ts : List Tok) → old ≡ LineEnd line ∷ ps →
    ps ≡ pieces_from ts 0 → counted b ps ≡ past skipped (counted b old)
unfolding past counted
past_line b line old ps ts e k =
    sym (ap (λ z. past skipped (counted b z)) e ∙ ap (λ z. past skipped (counted z ps)) (ended_keeps line b)
    ∙ ap (λ z. past skipped (counted b z)) k ∙ past_from b ts ∙ ap (counted b) (sym k))

pub past_token : (b : Before) (t : Tok) (old ps : List Piece) → old ≡ Token t ∷ ps →
    counted b old ≡ past skipped (counted b old)
unfolding past counted
past_token b t old ps e = rw e refl

pub past_end : (b : Before) (old ps : List Piece) → old ≡ InputEnd ∷ ps → counted b old ≡ past skipped (counted b old)
unfolding past counted
past_end b old ps e = rw e refl

pub past_none : (b : Before) (old : List Piece) → old ≡ [] → counted b old ≡ past skipped (counted b old)
unfolding past counted
past_none b old e = rw e refl

-- ---- lengths

pub counted_length : (b : Before) (ps : List Piece) → length (counted b ps) ≡ length ps
unfolding counted
counted_length b [] = refl
counted_length b (p ∷ ps) = let h = counted_length (behind (record { piece = p; before = b })) ps in omega (arith, h)

pub behind_shorter : (b c : Before) (p : Piece) (old ps : List Piece) → old ≡ p ∷ ps →
    length (counted c ps) < length (counted b old)
behind_shorter b c p old ps e = let k = ap length e in omega (arith, k, counted_length c ps, counted_length b old)

-- ---- counts

one_more-most : (z : Bool) (n : ℕ) → one_more z n ≤ n + 1
one_more-most true n = omega arith
one_more-most false n = omega arith

commas-most : (z w : Bool) (n : ℕ) → cond z 0 (one_more w n) ≤ n + 1
commas-most true w n = omega arith
commas-most false w n = one_more-most w n

module _ (r : Before) (t : Counted) (p : Piece) (old ps : List Piece) (e : r ≡ behind t) (k : old ≡ p ∷ ps) where
  pub names_fit : t.before.names + length old < 2 ^ 64 → r.names + length ps < 2 ^ 64
  names_fit h = let m = ap (λ (z : Before). z.names) e in let n = ap length k in
      let o : (behind t).names ≤ t.before.names + 1 = one_more-most _ _ in omega (arith, m, n, o, h)

  pub commas_fit : t.before.commas + length old < 2 ^ 64 → r.commas + length ps < 2 ^ 64
  commas_fit h = let m = ap (λ (z : Before). z.commas) e in let n = ap length k in
      let o : (behind t).commas ≤ t.before.commas + 1 = commas-most _ _ _ in omega (arith, m, n, o, h)

  pub statements_fit : t.before.statements + length old < 2 ^ 64 → r.statements + length ps < 2 ^ 64
  statements_fit h = let m = ap (λ (z : Before). z.statements) e in let n = ap length k in
      let o : (behind t).statements ≤ t.before.statements + 1 = one_more-most _ _ in omega (arith, m, n, o, h)

  pub atoms_fit : t.before.atoms + length old < 2 ^ 64 → r.atoms + length ps < 2 ^ 64
  atoms_fit h = let m = ap (λ (z : Before). z.atoms) e in let n = ap length k in
      let o : (behind t).atoms ≤ t.before.atoms + 1 = one_more-most _ _ in omega (arith, m, n, o, h)
