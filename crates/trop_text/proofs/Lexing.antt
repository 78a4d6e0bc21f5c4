-- The tokens of a text are those that its bytes have.
-- Index: along_line, all_lexed.
use Rattle.std.proofs.Common.{◌≡◌, ◌≤◌, ◌+◌, ◌-◌, ◌⊎◌, inl, inr, ℕ, zero, suc, Bool, true, false, ◌||◌, not, if◌then◌else◌, List, [], ◌∷◌, ◌++◌, length, take, drop, refl, sym, ap, ◌∙◌, subst, arith, true≢false, append_assoc, append-nil, length-append}
use Rattle.std.proofs.lemmas.Bool.{or_left, or_right}
use Rattle.std.proofs.lemmas.Bool.Decides.{nat_tests}
use Rattle.std.proofs.lemmas.List.{take-append-drop, length-take-le}
use Rattle.std.proofs.lemmas.List.Sums.{prefix_len-le-length}
use Rattle.std.specs.List.{list_all, prefix_len}
use Rattle.trop_text.specs.Bytes.{is_letter, is_digit, is_word_byte, is_line_feed, is_in_line, is_blank, is_hash}
use Rattle.trop_text.specs.Lines.{line_of, column_of}
use Rattle.trop_text.specs.Tokens.{Tok, is_long_sign, is_short_sign, sign_len, kind_of, tail_len, tokens_past}
use Rattle.trop_text.specs.Lexed.{in_comment, is_apart, IsGap, AreTokens}
use Rattle.trop_text.proofs.Positions.{line_of-feed, line_of-in, column_of-feed, column_of-in, in_comment-feed, in_comment-in}
use Rattle.trop_text.proofs.Signs.{and_both, and_first, and_second, is_plain}
use Rattle.trop_text.proofs.Skips.{tokens_skip}
use Rattle.trop_text.proofs.Longest.{Fits, token_fits, all_in_prefix, all_imply}

-- ---- bytes in front that belong to no token

gap_byte : (before : List ℕ) (b : ℕ) (bs : List ℕ) (ts : List Tok) → is_apart before b ≡ true →
    AreTokens (before ++ b ∷ []) bs ts → AreTokens before (b ∷ bs) ts
gap_byte before b bs [] apart h = (apart, h)
gap_byte before b bs (t ∷ ts) apart h =
    let f = h.0 in
    let same : before ++ b ∷ [] ++ f.gap ≡ before ++ (b ∷ f.gap) = append_assoc before (b ∷ []) f.gap in (
      record {
        gap = b ∷ f.gap;
        after = f.after;
        whole = ap (λ xs. b ∷ xs) f.whole;
        apart = (apart, f.apart);
        outside = subst (λ xs. in_comment xs ≡ false) same f.outside;
        line = f.line ∙ ap line_of same;
        column = f.column ∙ ap column_of same;
        longest = f.longest;
      },
      subst (λ xs. AreTokens (xs ++ t.text) f.after ts) same h.1,
    )

gap_bytes : (before gap rest : List ℕ) (ts : List Tok) → IsGap before gap → AreTokens (before ++ gap) rest ts →
    AreTokens before (gap ++ rest) ts
gap_bytes before [] rest ts apart h = subst (λ xs. AreTokens xs rest ts) (append-nil before) h
gap_bytes before (b ∷ gap) rest ts apart h =
    gap_byte before b (gap ++ rest) ts apart.0
    (gap_bytes (before ++ b ∷ []) gap rest ts apart.1
    (subst (λ xs. AreTokens xs rest ts) (sym (append_assoc before (b ∷ []) gap)) h))

in_line_no_feed : (b : ℕ) → is_in_line b ≡ true → is_line_feed b ≡ false
in_line_no_feed b h = by (is_line_feed b) refl
  where
    by : (x : Bool) → is_line_feed b ≡ x → is_line_feed b ≡ false
    by false e = e
    by true e = absurd (true≢false (sym h ∙ ap not e))

no_feed_in_line : (b : ℕ) → is_line_feed b ≡ false → is_in_line b ≡ true
no_feed_in_line b h = ap not h

comment_gap : (before text : List ℕ) → list_all is_in_line text ≡ true → in_comment before ≡ true → IsGap before text
comment_gap before [] all here = tt
comment_gap before (b ∷ bs) all here =
    let no_feed = in_line_no_feed b (and_first (is_in_line b) (list_all is_in_line bs) all) in (
      or_right (is_line_feed b || is_blank b || is_hash b) (in_comment before) here,
      comment_gap (before ++ b ∷ []) bs (and_second (is_in_line b) (list_all is_in_line bs) all)
          (in_comment-in before b no_feed ∙ or_right (is_hash b) (in_comment before) here),
    )

-- ---- along the bytes of a line

pub along_line : (before text : List ℕ) → list_all is_in_line text ≡ true →
    (line_of (before ++ text) ≡ line_of before) × (column_of (before ++ text) ≡ column_of before + length text)
along_line before [] all = (ap line_of (append-nil before), ap column_of (append-nil before) ∙ omega arith)
along_line before (b ∷ bs) all =
    let no_feed = in_line_no_feed b (and_first (is_in_line b) (list_all is_in_line bs) all) in
    let rest = along_line (before ++ b ∷ []) bs (and_second (is_in_line b) (list_all is_in_line bs) all) in
    let same : before ++ b ∷ [] ++ bs ≡ before ++ (b ∷ bs) = append_assoc before (b ∷ []) bs in
    let column : column_of (before ++ b ∷ []) ≡ column_of before + 1 = column_of-in before b no_feed in
    let sum : column_of before + 1 + length bs ≡ column_of before + length (b ∷ bs) = omega arith in (
      sym (ap line_of same) ∙ rest.0 ∙ line_of-in before b no_feed,
      sym (ap column_of same) ∙ rest.1 ∙ ap (λ n. n + length bs) column ∙ sum,
    )

plain_in_line : (b : ℕ) → is_plain b ≡ true → is_in_line b ≡ true
plain_in_line b h = and_first (is_in_line b) (not (is_hash b)) h

no_hash_in_plain : (b : ℕ) → is_plain b ≡ true → is_hash b ≡ false
no_hash_in_plain b h = by (is_hash b) refl
  where
    by : (x : Bool) → is_hash b ≡ x → is_hash b ≡ false
    by false e = e
    by true e = absurd (true≢false (sym (and_second (is_in_line b) (not (is_hash b)) h) ∙ ap not e))

clear_along : (before text : List ℕ) → list_all is_plain text ≡ true → in_comment before ≡ false →
    in_comment (before ++ text) ≡ false
clear_along before [] all clear = ap in_comment (append-nil before) ∙ clear
clear_along before (b ∷ bs) all clear =
    let plain = and_first (is_plain b) (list_all is_plain bs) all in
    let next : in_comment (before ++ b ∷ []) ≡ false =
    in_comment-in before b (in_line_no_feed b (plain_in_line b plain)) ∙ ap (λ x. x || in_comment before)
    (no_hash_in_plain b plain) ∙ clear in
    sym (ap in_comment (append_assoc before (b ∷ []) bs)) ∙ clear_along (before ++ b ∷ []) bs
    (and_second (is_plain b) (list_all is_plain bs) all) next

-- ---- where a token may begin

-- the bytes rest are at the end, or at the end of their line, or in no comment
abbrev StandsClear : List ℕ → List ℕ → Type 0
StandsClear before [] = Unit {0}
StandsClear before (b ∷ bs) = (is_line_feed b ≡ true) ⊎ (in_comment before ≡ false)

clear_before : (before rest : List ℕ) → in_comment before ≡ false → StandsClear before rest
clear_before before [] clear = tt
clear_before before (b ∷ bs) clear = inr clear

clear_behind_comment : (before bs : List ℕ) → StandsClear before (drop (prefix_len is_in_line bs) bs)
clear_behind_comment before [] = tt
clear_behind_comment before (b ∷ bs) = by (is_line_feed b) refl (clear_behind_comment before bs)
  where
    by : (x : Bool) → is_line_feed b ≡ x → StandsClear before (drop (prefix_len is_in_line bs) bs) →
        StandsClear before (drop (prefix_len is_in_line (b ∷ bs)) (b ∷ bs))
    by true e rest = rw e (inl e)
    by false e rest =
        let n : 1 + prefix_len is_in_line bs ≡ suc (prefix_len is_in_line bs) = omega arith in
        rw (e, n) rest

-- ---- one step

-- the tokens of all shorter rests are right
abbrev Shorter : ℕ → Type 0
Shorter n = (before rest : List ℕ) → length rest ≤ n → StandsClear before rest →
    AreTokens before rest (tokens_past 0 rest (line_of before) (column_of before))

at_place : (before rest : List ℕ) (l c m d : ℕ) → l ≡ m → c ≡ d → AreTokens before rest (tokens_past 0 rest l c) →
    AreTokens before rest (tokens_past 0 rest m d)
at_place before rest l c m d e k h =
    subst (λ x. AreTokens before rest (tokens_past 0 rest x d)) e
    (subst (λ y. AreTokens before rest (tokens_past 0 rest l y)) k h)

feed_step : (n : ℕ) (before : List ℕ) (b : ℕ) (bs : List ℕ) → Shorter n → length bs ≤ n → is_line_feed b ≡ true →
    AreTokens before (b ∷ bs) (tokens_past 0 bs (line_of before + 1) 1)
feed_step n before b bs shorter le feed =
    gap_byte before b bs _ (or_left _ (in_comment before)
    (or_left _ (is_hash b) (or_left (is_line_feed b) (is_blank b) feed)))
    (at_place (before ++ b ∷ []) bs _ _ _ _ (line_of-feed before b feed) (column_of-feed before b feed)
    (shorter (before ++ b ∷ []) bs le (clear_before (before ++ b ∷ []) bs (in_comment-feed before b feed))))

blank_step : (n : ℕ) (before : List ℕ) (b : ℕ) (bs : List ℕ) → Shorter n → length bs ≤ n → is_line_feed b ≡ false →
    is_blank b ≡ true → is_hash b ≡ false → in_comment before ≡ false →
    AreTokens before (b ∷ bs) (tokens_past 0 bs (line_of before) (column_of before + 1))
blank_step n before b bs shorter le no_feed blank no_hash clear =
    gap_byte before b bs _ (or_left _ (in_comment before)
    (or_left _ (is_hash b) (or_right (is_line_feed b) (is_blank b) blank)))
    (at_place (before ++ b ∷ []) bs _ _ _ _ (line_of-in before b no_feed) (column_of-in before b no_feed)
    (shorter (before ++ b ∷ []) bs le (clear_before (before ++ b ∷ []) bs
    (in_comment-in before b no_feed ∙ ap (λ x. x || in_comment before) no_hash ∙ clear))))

comment_step : (n : ℕ) (before : List ℕ) (b : ℕ) (bs : List ℕ) → Shorter n → length bs ≤ n → is_line_feed b ≡ false →
    is_hash b ≡ true → AreTokens before (b ∷ bs) (tokens_past (prefix_len is_in_line bs) bs (line_of before)
    (column_of before + 1))
comment_step n before b bs shorter le no_feed hash =
    let m = prefix_len is_in_line bs in
    let within : m ≤ length bs = prefix_len-le-length is_in_line bs in
    let text = b ∷ take m bs in
    let rest = drop m bs in
    let all : list_all is_in_line text ≡ true = and_both (is_in_line b) (list_all is_in_line (take m bs))
    (no_feed_in_line b no_feed) (all_in_prefix is_in_line bs) in
    let place = along_line before text all in
    let long : length (take m bs) ≡ m = length-take-le m bs within in
    let column : column_of (before ++ text) ≡ column_of before + 1 + m = place.1 ∙ omega arith in
    let inside : in_comment (before ++ b ∷ []) ≡ true =
    in_comment-in before b no_feed ∙ or_left (is_hash b) (in_comment before) hash in
    let first : is_apart before b ≡ true = or_left _ (in_comment before)
    (or_right (is_line_feed b || is_blank b) (is_hash b) hash) in
    let gap : IsGap before text = (
      first,
      comment_gap (before ++ b ∷ []) (take m bs)
          (all_in_prefix is_in_line bs) inside,
    ) in
    let shorter_rest : length rest ≤ n = let whole = ap length (take-append-drop m bs) in
    omega (arith, length-append (take m bs) rest) in
    let behind = at_place (before ++ text) rest _ _ _ _ place.0 column
    (shorter (before ++ text) rest shorter_rest (clear_behind_comment (before ++ text) bs)) in
    rw (tokens_skip m bs (line_of before) (column_of before + 1) within)
    (subst (λ xs. AreTokens before xs (tokens_past 0 rest (line_of before) (column_of before + 1 + m)))
    (ap (λ xs. b ∷ xs) (take-append-drop m bs)) (gap_bytes before text rest _ gap behind))

sign_within : (b : ℕ) (bs : List ℕ) → sign_len b bs - 1 ≤ length bs
unfolding sign_len
sign_within b [] = by (is_short_sign b)
  where
    by : (s : Bool) → (if s then 1 else 0) - 1 ≤ 0
    by true = omega arith
    by false = omega arith
sign_within b (c ∷ bs) = by (is_long_sign b c) (is_short_sign b)
  where
    by : (l s : Bool) → (if l then 2 else (if s then 1 else 0)) - 1 ≤ length (c ∷ bs)
    by true s = omega arith
    by false true = omega arith
    by false false = omega arith

tail_within : (b : ℕ) (bs : List ℕ) → tail_len b bs ≤ length bs
unfolding tail_len
tail_within b bs = by (is_letter b) (is_digit b)
  where
    by : (l d : Bool) → (if l then prefix_len is_word_byte bs else
        (if d then prefix_len is_digit bs else sign_len b bs - 1)) ≤ length bs
    by true d = prefix_len-le-length is_word_byte bs
    by false true = prefix_len-le-length is_digit bs
    by false false = sign_within b bs

token_step : (n : ℕ) (before : List ℕ) (b : ℕ) (bs : List ℕ) → Shorter n → length bs ≤ n → is_line_feed b ≡ false →
    is_hash b ≡ false → in_comment before ≡ false
    → AreTokens before (b ∷ bs) (record {
      kind = kind_of b bs;
      text = b ∷ take (tail_len b bs) bs;
      line =
          line_of before;
      column = column_of before;
    } ∷ tokens_past (tail_len b bs) bs (line_of before)
    (column_of before + 1))
token_step n before b bs shorter le no_feed no_hash clear =
    let m = tail_len b bs in
    let within : m ≤ length bs = tail_within b bs in
    let text = b ∷ take m bs in
    let rest = drop m bs in
    let fits : Fits (kind_of b bs) text rest = token_fits b bs no_feed no_hash in
    let place = along_line before text (all_imply is_plain is_in_line plain_in_line text fits.plain) in
    let long : length (take m bs) ≡ m = length-take-le m bs within in
    let column : column_of (before ++ text) ≡ column_of before + 1 + m = place.1 ∙ omega arith in
    let shorter_rest : length rest ≤ n = let whole = ap length (take-append-drop m bs) in
    omega (arith, length-append (take m bs) rest) in
    let behind = at_place (before ++ text) rest _ _ _ _ place.0 column
    (shorter (before ++ text) rest shorter_rest
    (clear_before (before ++ text) rest (clear_along before text fits.plain clear))) in
    let none : before ++ [] ≡ before = append-nil before in (
      record {
        gap = [];
        after = rest;
        whole = ap (λ xs. b ∷ xs) (sym (take-append-drop m bs));
        apart = tt;
        outside = ap in_comment none ∙ clear;
        line = ap line_of (sym none);
        column = ap column_of (sym none);
        longest = fits.longest;
      },
      rw (tokens_skip m bs (line_of before) (column_of before + 1) within)
          (subst (λ xs. AreTokens (xs ++ text) rest (tokens_past 0 rest (line_of before) (column_of before + 1 + m)))
          (sym none) behind),
    )

no_blank_hash : (b : ℕ) → is_blank b ≡ true → is_hash b ≡ false
no_blank_hash b h = grind (arith, nat_tests)

outside_unless_feed : (before : List ℕ) (b : ℕ) → is_line_feed b ≡ false →
    (is_line_feed b ≡ true) ⊎ (in_comment before ≡ false) → in_comment before ≡ false
outside_unless_feed before b no_feed (inl feed) = absurd (true≢false (sym feed ∙ no_feed))
outside_unless_feed before b no_feed (inr clear) = clear

step : (n : ℕ) (before : List ℕ) (b : ℕ) (bs : List ℕ) → Shorter n → length bs ≤ n → StandsClear before (b ∷ bs) →
    (f k h : Bool) → is_line_feed b ≡ f → is_blank b ≡ k → is_hash b ≡ h
    → AreTokens before (b ∷ bs) (tokens_past 0 (b ∷ bs) (line_of before) (column_of before))
unfolding tokens_past
step n before b bs shorter le clear true k h feed blank hash = rw feed (feed_step n before b bs shorter le feed)
step n before b bs shorter le clear false true h feed blank hash =
    rw (feed, blank) (blank_step n before b bs shorter le feed blank (no_blank_hash b blank)
    (outside_unless_feed before b feed clear))
step n before b bs shorter le clear false false true feed blank hash =
    rw (feed, blank, hash) (comment_step n before b bs shorter le feed hash)
step n before b bs shorter le clear false false false feed blank hash =
    rw (feed, blank, hash) (token_step n before b bs shorter le feed hash (outside_unless_feed before b feed clear))

lexed : (n : ℕ) → Shorter n
unfolding tokens_past
lexed n before [] le clear = tt
lexed zero before (b ∷ bs) le clear = absurd (omega arith)
lexed (suc n) before (b ∷ bs) le clear = step n before b bs (lexed n) (omega arith) clear (is_line_feed b) (is_blank b)
    (is_hash b) refl refl refl

-- the tokens of a whole text
pub all_lexed : (bytes : List ℕ) → AreTokens [] bytes (tokens_past 0 bytes 1 1)
all_lexed bytes = lexed (length bytes) [] bytes (omega arith) (clear_before [] bytes refl)
