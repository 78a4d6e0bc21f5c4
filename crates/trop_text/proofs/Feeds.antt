-- Where a line begins and ends.
use Rattle.std.proofs.Common.{◌≡◌, ◌≤◌, ◌+◌, ◌-◌, ℕ, zero, suc, Bool, true, false, cond, if◌then◌else◌, List, [], ◌∷◌, ◌++◌, length, take, drop, count_by, slice_get, Option, Some, None, refl, sym, ap, ◌∙◌, arith, append_assoc, append-nil}
use Rattle.std.proofs.lemmas.List.{take-append-drop, length-take-le}
use Rattle.std.proofs.lemmas.List.Sums.{sum_by-cons, prefix_len-le-length}
use Rattle.std.specs.List.{prefix_len}
use Rattle.trop_text.specs.Bytes.{is_line_feed, is_in_line}
use Rattle.trop_text.specs.Lines.{line_of, column_of, line_count, end_column, past_lines, unended, BeginsWithFeed, EndsLine}
use Rattle.trop_text.proofs.Positions.{line_of-feed, line_of-in, column_of-feed}
use Rattle.trop_text.proofs.Longest.{all_in_prefix}
use Rattle.trop_text.proofs.Lexing.{along_line}

-- the bytes above the line that begins behind k more line feeds
record Above (before bytes : List ℕ) (k : ℕ) : Type 0 where
  pub above : List ℕ
  pub whole : bytes ≡ above ++ past_lines k bytes
  pub line : line_of (before ++ above) ≡ line_of before + k
  pub column : (k ≡ 0 → column_of before ≡ 1) → column_of (before ++ above) ≡ 1

above_more : (before : List ℕ) (b : ℕ) (bs : List ℕ) (k m : ℕ) → past_lines m (b ∷ bs) ≡ past_lines k bs →
    line_of (before ++ b ∷ []) + k ≡ line_of before + m
    → ((m ≡ 0 → column_of before ≡ 1) → k ≡ 0 → column_of (before ++ b ∷ []) ≡ 1) → Above (before ++ b ∷ []) bs k →
    Above before (b ∷ bs) m
above_more before b bs k m rest lines starts a =
    let same : before ++ b ∷ [] ++ a.above ≡ before ++ (b ∷ a.above) = append_assoc before (b ∷ []) a.above in
    record {
      above = b ∷ a.above;
      whole = ap (λ xs. b ∷ xs) (a.whole ∙ ap (λ xs. a.above ++ xs) (sym rest));
      line = sym (ap line_of same) ∙ a.line ∙ lines;
      column = λ start. sym (ap column_of same) ∙ a.column (starts start);
    }

above_line : (k : ℕ) (bytes before : List ℕ) → k ≤ count_by is_line_feed bytes → Above before bytes k
unfolding past_lines
above_line zero bytes before le = record {
  above = [];
  whole = refl;
  line = ap line_of (append-nil before) ∙ omega arith;
  column = λ start. ap column_of (append-nil before) ∙ start refl;
}
above_line (suc k) [] before le = absurd (omega arith)
above_line (suc k) (b ∷ bs) before le = by (is_line_feed b) refl (λ e. above_line k bs (before ++ b ∷ []) (fewer e))
    (λ e. above_line (suc k) bs (before ++ b ∷ []) (as_many e))
  where
    count : count_by is_line_feed (b ∷ bs) ≡ cond (is_line_feed b) 1 0 + count_by is_line_feed bs
    count = sum_by-cons (λ x. cond (is_line_feed x) 1 0) b bs

    fewer : is_line_feed b ≡ true → k ≤ count_by is_line_feed bs
    fewer e = let n : count_by is_line_feed (b ∷ bs) ≡ 1 + count_by is_line_feed bs =
        count ∙ ap (λ x. cond x 1 0 + count_by is_line_feed bs) e in omega arith

    as_many : is_line_feed b ≡ false → suc k ≤ count_by is_line_feed bs
    as_many e = let n : count_by is_line_feed (b ∷ bs) ≡ 0 + count_by is_line_feed bs =
        count ∙ ap (λ x. cond x 1 0 + count_by is_line_feed bs) e in omega arith

    by : (x : Bool) → is_line_feed b ≡ x → (is_line_feed b ≡ true → Above (before ++ b ∷ []) bs k) →
        (is_line_feed b ≡ false → Above (before ++ b ∷ []) bs (suc k)) → Above before (b ∷ bs) (suc k)
    by true e here further =
        let line = line_of-feed before b e in
        above_more before b bs k (suc k) (rw e refl) (omega arith) (λ start zero_is. column_of-feed before b e) (here e)
    by false e here further =
        let line = line_of-in before b e in
        above_more before b bs (suc k) (suc k) (rw e refl) (omega arith) (λ start zero_is. absurd (omega arith))
        (further e)

feed_behind : (bs : List ℕ) → BeginsWithFeed (drop (prefix_len is_in_line bs) bs)
feed_behind [] = tt
feed_behind (b ∷ bs) = by (is_line_feed b) refl (feed_behind bs)
  where
    by : (x : Bool) → is_line_feed b ≡ x → BeginsWithFeed (drop (prefix_len is_in_line bs) bs) →
        BeginsWithFeed (drop (prefix_len is_in_line (b ∷ bs)) (b ∷ bs))
    by true e rest = rw e e
    by false e rest =
        let n : 1 + prefix_len is_in_line bs ≡ suc (prefix_len is_in_line bs) = omega arith in
        rw (e, n) rest

unended-le : (o : Option ℕ) → unended o ≤ 1
unended-le None = omega arith
unended-le (Some b) = by (is_line_feed b)
  where
    by : (x : Bool) → (if x then 0 else 1) ≤ 1
    by true = omega arith
    by false = omega arith

-- a line ends at the column that its end names
pub line_ends : (bytes : List ℕ) (line : ℕ) → 1 ≤ line → line ≤ line_count bytes →
    EndsLine bytes line (end_column bytes line)
line_ends bytes line low high =
    let k = line - 1 in
    let few = unended-le (slice_get bytes (length bytes - 1)) in
    let a = above_line k bytes [] (omega arith) in
    let rest = past_lines k bytes in
    let n = prefix_len is_in_line rest in
    let place = along_line a.above (take n rest) (all_in_prefix is_in_line rest) in
    let long : length (take n rest) ≡ n = length-take-le n rest (prefix_len-le-length is_in_line rest) in
    let start : column_of a.above ≡ 1 = a.column (λ _. refl) in
    let at : line_of a.above ≡ 1 + k = a.line in
    record {
      before = a.above ++ take n rest;
      rest = drop n rest;
      whole = a.whole ∙ ap (λ xs. a.above ++ xs) (sym (take-append-drop n rest))
          ∙ sym (append_assoc a.above (take n rest) (drop n rest));
      line_is = sym (place.0 ∙ at ∙ omega arith);
      column_is = sym (place.1 ∙ ap (λ c. c + length (take n rest)) start ∙ ap (λ l. 1 + l) long);
      ends = feed_behind rest;
    }
