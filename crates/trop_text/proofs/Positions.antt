-- Lines, columns and comments behind one more byte.
use Rattle.std.proofs.Common.{◌≡◌, ◌+◌, ℕ, suc, Bool, true, false, ◌||◌, cond, List, [], ◌∷◌, ◌++◌, reverse, count_by, refl, arith}
use Rattle.std.proofs.lemmas.List.{reverse-append}
use Rattle.std.proofs.lemmas.List.Sums.{fold-append}
use Rattle.std.specs.List.{prefix_len}
use Rattle.trop_text.specs.Bytes.{is_line_feed, is_in_line, is_hash}
use Rattle.trop_text.specs.Lines.{line_of, column_of}
use Rattle.trop_text.specs.Lexed.{in_comment}

count_by-last : (p : ℕ → Bool) (xs : List ℕ) (b : ℕ) → count_by p (xs ++ b ∷ []) ≡ count_by p xs + cond (p b) 1 0
count_by-last p xs b = fold-append (λ a x. a + cond (p x) 1 0) 0 xs (b ∷ [])

reverse-last : (xs : List ℕ) (b : ℕ) → reverse (xs ++ b ∷ []) ≡ b ∷ reverse xs
reverse-last xs b = reverse-append xs (b ∷ [])

module _ (before : List ℕ) (b : ℕ) where
  pub line_of-feed : is_line_feed b ≡ true → line_of (before ++ b ∷ []) ≡ line_of before + 1
  line_of-feed e = rw (count_by-last is_line_feed before b, e) (omega arith)

  pub line_of-in : is_line_feed b ≡ false → line_of (before ++ b ∷ []) ≡ line_of before
  line_of-in e = rw (count_by-last is_line_feed before b, e) (omega arith)

  pub column_of-feed : is_line_feed b ≡ true → column_of (before ++ b ∷ []) ≡ 1
  column_of-feed e = rw (reverse-last before b, e) refl

  pub column_of-in : is_line_feed b ≡ false → column_of (before ++ b ∷ []) ≡ column_of before + 1
  column_of-in e = rw (reverse-last before b, e) (omega arith)

  pub in_comment-feed : is_line_feed b ≡ true → in_comment (before ++ b ∷ []) ≡ false
  in_comment-feed e = rw (reverse-last before b, e) refl

  pub in_comment-in : is_line_feed b ≡ false → in_comment (before ++ b ∷ []) ≡ (is_hash b || in_comment before)
  in_comment-in e = let one : 1 + prefix_len is_in_line (reverse before) ≡ suc
      (prefix_len is_in_line (reverse before)) = omega arith in rw (reverse-last before b, e, one) refl
