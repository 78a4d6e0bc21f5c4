-- Printed sides are read back as their terms.
-- Index: zero_is, truth_is_one, truth_number_is, zero_written, term_written, side_written.
use Rattle.std.proofs.Common.{◌≡◌, ◌<◌, ◌≤◌, ◌+◌, ◌^◌, ◌⊎◌, inl, inr, ℕ, zero, suc, Bool, true, List, [], ◌∷◌, ◌++◌, length, codes, Option, Some, None, Ok, refl, sym, ap, ◌∙◌, subst, arith, pos, append_assoc, add-one}
use Rattle.std.specs.Prelude.{ℤ, unsigned_abs}
use Rattle.trop_theory.specs.Semiring.{Semiring}
use Rattle.trop_theory.specs.Numbers.{Numbering, NumberLaws, NumericLaws}
use Rattle.trop_theory.specs.Vectors.{row_size}
use Rattle.trop_grammar.specs.Lists.{Passes, AreSeparated}
use Rattle.trop_text.specs.Name.{is_word}
use Rattle.trop_text.specs.Names.{AreNames}
use Rattle.trop_text.specs.Pieces.{Piece, Token}
use Rattle.trop_text.specs.declared.token.TokenKind.TheVariants.{Word, Sign}
use Rattle.trop_text.proofs.Written.{tok, IsOne, IsWritten, written_join, written_as}
use Rattle.trop_text.proofs.WrittenTokens.{StopsWord, Always, word_written, blank_written}
use Rattle.trop_spelling.specs.declared.ring_kind.RingKind.{RingKind}
use Rattle.trop_spelling.specs.declared.ring_kind.RingKind.TheVariants.{Max as MaxKind, Min as MinKind, Bool as BoolKind}
use Rattle.trop_spelling.specs.Spelling.{KindLaws, IsTruthOnly, element_text, sum_word}
use Rattle.trop_spelling.specs.Printed.{after_commas, comma_list, numbers, term_text, terms_from, sum_text, printed_side}
use Rattle.trop_spelling.specs.declared.terms.Term.{Term}
use Rattle.trop_spelling.specs.Inequalities.{term, IsTerm, side_start, between_terms, IsSideRest}
use Rattle.trop_spelling.proofs.Coefficients.{if_finite, terms_of, or_zero, written_terms}
use Rattle.trop_spelling.proofs.PrintedTerms.{IsPlainTerm, IsOpenSide, plain_is_term, plain_is_side}
use Rattle.trop_spelling.proofs.WrittenTerms.{max_element, min_element, truth_element, max_shifted, min_shifted, truth_variable, comma_written, open_written, close_written}
use Rattle.trop_reading.proofs.Samples.{nought}

-- ---- what is known of numbers

module _ {V : Type 0} (R : Semiring V) (N : Numbering V) (numbers_are : NumberLaws R N) where
  pub zero_is : (x : V) → N.to x ≡ None → x ≡ R.zero
  zero_is x e = (numbers_are.none x).0 e

  pub truth_is_one : IsTruthOnly R N → (x : V) (c : ℤ) → N.to x ≡ Some c → x ≡ R.one
  truth_is_one truths x c e = by (truths.two x)
    where
      by : (x ≡ R.zero) ⊎ (x ≡ R.one) → x ≡ R.one
      by (inl below) = let p : None ≡ Some c = sym ((numbers_are.none x).1 below) ∙ e in absurd cc
      by (inr same) = same

  pub truth_number_is : IsTruthOnly R N → (x : V) (c : ℤ) → N.to x ≡ Some c → c ≡ pos 0
  truth_number_is truths x c e = let p : Some c ≡ Some (pos 0) =
      sym e ∙ ap N.to (truth_is_one truths x c e) ∙ truths.number in cc

  numeric_one : {reversed : Bool} → NumericLaws R N reversed → (x : V) (c : ℤ) → N.to x ≡ Some c → c ≡ pos 0 → x ≡ R.one
  numeric_one laws x c e nought = sym (laws.of-to x c e) ∙ ap N.of nought ∙ laws.of-to R.one (pos 0) laws.to-one

-- ---- terms

module _ {V : Type 0} (reversed : Bool) (R : Semiring V) (N : Numbering V) (numbers_are : NumberLaws R N) (bound : ℕ)
    (names : List (List ℕ)) (small : bound < 2 ^ 64) (are : AreNames names) where
  abbrev ReadsAs : RingKind → Term V → List ℕ → Type 0
  ReadsAs kind t text = IsWritten StopsWord text (λ us. IsPlainTerm kind R N bound names us t)

  coordinate : (kind : RingKind) (k : ℕ) (x : V) (text : List ℕ) → ReadsAs kind (term (k + 1) x) text →
      ReadsAs kind (term (suc k) x) text
  coordinate kind k x text h = subst (λ i. ReadsAs kind (term i x) text) (add-one k) h

  pub zero_written : (kind : RingKind) → ReadsAs kind (term 0 R.zero) (element_text kind None)
  zero_written MaxKind = max_element R N bound names small None R.zero tt (λ e. refl) (λ n e. absurd cc)
  zero_written MinKind = min_element R N bound names small None R.zero tt (λ e. refl) (λ n e. absurd cc)
  zero_written BoolKind = truth_element R N bound names small None R.zero (λ e. refl) (λ n e. absurd cc)

  pub term_written : (kind : RingKind) → KindLaws kind R N reversed → (k : ℕ) (x : V) (c : ℤ) → N.to x ≡ Some c →
      R.size x ≤ bound → k < length names + 1 → ReadsAs kind (term k x) (term_text kind names k c)
  term_written MaxKind laws zero x c e s h =
      let within : unsigned_abs c ≤ bound = omega (arith, laws.0.size x c e) in
      max_element R N bound names small (Some c) x within (λ none. absurd cc) (λ n same. laws.0.of-to x n (e ∙ same))
  term_written MaxKind laws (suc k) x c e s h =
      let within : unsigned_abs c ≤ bound = omega (arith, laws.0.size x c e) in
      coordinate MaxKind k x _ (max_shifted R N bound names small are k (omega arith) c x within
      (numeric_one R N numbers_are laws.0 x c e) (laws.0.of-to x c e))
  term_written MinKind laws zero x c e s h =
      let within : unsigned_abs c ≤ bound = omega (arith, laws.0.size x c e) in
      min_element R N bound names small (Some c) x within (λ none. absurd cc) (λ n same. laws.0.of-to x n (e ∙ same))
  term_written MinKind laws (suc k) x c e s h =
      let within : unsigned_abs c ≤ bound = omega (arith, laws.0.size x c e) in
      coordinate MinKind k x _ (min_shifted R N bound names small are k (omega arith) c x within
      (numeric_one R N numbers_are laws.0 x c e) (laws.0.of-to x c e))
  term_written BoolKind laws zero x c e s h = truth_element R N bound names small (Some c) x (λ none. absurd cc)
      (λ n same. truth_is_one R N numbers_are laws x c e)
  term_written BoolKind laws (suc k) x c e s h =
      coordinate BoolKind k x _ (truth_variable R N bound names small are k (omega arith) c x
      (truth_number_is R N numbers_are laws x c e) (truth_is_one R N numbers_are laws x c e))

-- ---- the texts of terms

module _ {V : Type 0} (kind : RingKind) (reversed : Bool) (R : Semiring V) (N : Numbering V)
    (laws : KindLaws kind R N reversed) (numbers_are : NumberLaws R N) (bound : ℕ) (names : List (List ℕ))
    (small : bound < 2 ^ 64) (are : AreNames names) where
  abbrev Reads : Term V → List ℕ → Type 0
  Reads t text = IsWritten StopsWord text (λ us. IsPlainTerm kind R N bound names us t)

  -- each text is read as the term at its place
  abbrev AreRead : List (Term V) → List (List ℕ) → Type 0
  AreRead [] [] = Unit {0}
  AreRead (t ∷ ts) (text ∷ texts) = Reads t text × AreRead ts texts
  AreRead _ _ = ⊥

  more_read : (x : V) (side : List V) (k : ℕ) → k < length names + 1 → R.size x ≤ bound → (o : Option ℤ) → N.to x ≡ o →
      AreRead (terms_of N (k + 1) side) (terms_from kind names (k + 1) (numbers N side))
      → AreRead (if_finite o (term k x) (terms_of N (k + 1) side)) (terms_from kind names k (o ∷ numbers N side))
  more_read x side k h s None e others = others
  more_read x side k h s (Some c) e others = (
    term_written reversed R N numbers_are bound names small are kind laws
        k x c e s h,
    others,
  )

  terms_read : (side : List V) (k : ℕ) → k + length side ≤ length names + 1 → row_size R side ≤ bound →
      AreRead (terms_of N k side) (terms_from kind names k (numbers N side))
  terms_read [] k h s = tt
  terms_read (x ∷ side) k h s = more_read x side k (omega arith) (omega arith) (N.to x) refl
      (terms_read side (k + 1) (omega arith) (omega arith))

  -- ---- sums

  abbrev Listed : Term V → List (Term V) → List Piece → Type 0
  Listed t ts us = AreSeparated (IsTerm kind R N bound names) (Passes between_terms) t us ts

  last_term : (t : Term V) (us vs : List Piece) → IsPlainTerm kind R N bound names us t → IsOne Sign (codes ")") vs →
      Listed t [] (us ++ vs)
  last_term t us vs g o = (
    us,
    Token (tok Sign (codes ")") o.line o.column),
    ap (λ ps. us ++ ps) o.whole,
    plain_is_term kind R N bound names us t g,
    refl,
  )

  -- a comma and the terms behind it
  record Behind (t : Term V) (ts : List (Term V)) (us : List Piece) : Type 0 where
    line : ℕ
    column : ℕ
    rest : List Piece
    whole : us ≡ Token (tok Sign (codes ",") line column) ∷ rest
    listed : Listed t ts rest

  behind_comma : (t : Term V) (ts : List (Term V)) (us vs : List Piece) → IsOne Sign (codes ",") us → Listed t ts vs →
      Behind t ts (us ++ vs)
  behind_comma t ts us vs o h = record {
    line = o.line;
    column = o.column;
    rest = vs;
    whole =
        ap (λ ps. ps ++ vs) o.whole;
    listed = h;
  }

  further_term : (t u : Term V) (ts : List (Term V)) (us vs : List Piece) → IsPlainTerm kind R N bound names us t →
      Behind u ts vs → Listed t (u ∷ ts) (us ++ vs)
  further_term t u ts us vs g h = (
    us,
    h.rest,
    Token (tok Sign (codes ",") h.line h.column),
    ap (λ ps. us ++ ps) h.whole,
    plain_is_term kind R N bound names us t g,
    refl,
    h.listed,
  )

  list_written : (t : Term V) (ts : List (Term V)) (text : List ℕ) (texts : List (List ℕ)) → Reads t text →
      AreRead ts texts → IsWritten Always (text ++ (after_commas texts ++ codes ")")) (Listed t ts)
  list_written t [] text [] h r = written_join (last_term t) (λ rest s. refl) h close_written
  list_written t [] text (x ∷ texts) h r = absurd r
  list_written t (u ∷ ts) text [] h r = absurd r
  list_written t (u ∷ ts) text (x ∷ texts) h r =
      let more : IsWritten Always (x ++ (after_commas texts ++ codes ")")) (Listed u ts) =
      list_written u ts x texts r.0 r.1 in
      let comma : IsWritten Always (codes ", " ++ (x ++ (after_commas texts ++ codes ")"))) (Behind u ts) =
      written_join (behind_comma u ts) (λ rest s. tt) comma_written (blank_written more) in
      let regroup : codes ", " ++ (x ++ (after_commas texts ++ codes ")")) ≡ after_commas (x ∷ texts) ++ codes ")" =
      ap (λ bytes. codes ", " ++ bytes) (sym (append_assoc x (after_commas texts) (codes ")"))) in
      written_join (further_term t u ts) (λ rest s. refl) h
      (subst (λ bytes. IsWritten Always bytes (Behind u ts)) regroup comma)

  in_brackets : (t : Term V) (ts : List (Term V)) (us vs : List Piece) → IsOne Sign (codes "(") us → Listed t ts vs →
      IsSideRest kind R N bound names None (us ++ vs) (t ∷ ts)
  in_brackets t ts us vs o h = record {
    front = us;
    back = vs;
    value = tt;
    whole = refl;
    first = record { token = Token (tok Sign (codes "(") o.line o.column); whole = o.whole; is = refl };
    second = record { first = t; others = ts; is = refl; are = h };
  }

  sum_word_is : (kind : RingKind) → is_word (sum_word kind) ≡ true
  sum_word_is MaxKind = refl
  sum_word_is MinKind = refl
  sum_word_is BoolKind = refl

  starts_sum : (kind : RingKind) (line column : ℕ) →
      side_start kind R N bound names (Token (tok Word (sum_word kind) line column)) ≡ Ok None
  starts_sum MaxKind line column = refl
  starts_sum MinKind line column = refl
  starts_sum BoolKind line column = refl

  behind_sum_word : (terms : List (Term V)) (us vs : List Piece) → IsOne Word (sum_word kind) us →
      IsSideRest kind R N bound names None vs terms → IsOpenSide kind R N bound names (us ++ vs) terms
  behind_sum_word terms us vs o h = record {
    first = tok Word (sum_word kind) o.line o.column;
    others = vs;
    start = None;
    whole = ap (λ ps. ps ++ vs) o.whole;
    begins = starts_sum kind o.line o.column;
    rest = h;
  }

  sum_written : (terms : List (Term V)) (texts : List (List ℕ)) → AreRead terms texts →
      IsWritten StopsWord (sum_text kind texts) (λ us. IsOpenSide kind R N bound names us (or_zero R terms))
  sum_written [] [] h = written_as (λ us. plain_is_side kind R N bound names us (term 0 R.zero)) (λ rest s. s)
      (zero_written reversed R N numbers_are bound names small are kind)
  sum_written [] (text ∷ texts) h = absurd h
  sum_written (t ∷ ts) [] h = absurd h
  sum_written (t ∷ []) (text ∷ []) h = written_as (λ us. plain_is_side kind R N bound names us t) (λ rest s. s) h.0
  sum_written (t ∷ []) (text ∷ x ∷ texts) h = absurd h.1
  sum_written (t ∷ u ∷ ts) (text ∷ []) h = absurd h.1
  sum_written (t ∷ u ∷ ts) (text ∷ x ∷ texts) h =
      let inner : IsWritten Always (text ++ (after_commas (x ∷ texts) ++ codes ")")) (Listed t (u ∷ ts)) =
      list_written t (u ∷ ts) text (x ∷ texts) h.0 h.1 in
      let whole : IsWritten Always (comma_list (text ∷ x ∷ texts) ++ codes ")") (Listed t (u ∷ ts)) =
      subst (λ bytes. IsWritten Always bytes (Listed t (u ∷ ts)))
      (sym (append_assoc text (after_commas (x ∷ texts)) (codes ")"))) inner in
      let brackets = written_join (in_brackets t (u ∷ ts)) (λ rest s. tt) open_written whole in
      written_as (λ us g. g) (λ rest s. tt) (written_join (behind_sum_word (t ∷ u ∷ ts)) (λ rest s. refl)
      (word_written (sum_word kind) (sum_word_is kind)) brackets)

  -- a side as it is printed
  pub side_written : (side : List V) → length side ≡ length names + 1 → row_size R side ≤ bound →
      IsWritten StopsWord (printed_side kind names (numbers N side))
      (λ us. IsOpenSide kind R N bound names us (written_terms R N side))
  side_written side wide s =
      sum_written (terms_of N 0 side) (terms_from kind names 0 (numbers N side)) (terms_read side 0 (omega arith) s)
