-- The tokens of a printed term are read as the term.
-- Index: IsPlainTerm, IsOpenSide, plain_is_term, plain_is_side, open_is_side, max_number, min_number, min_zero,
-- truth_zero, truth_one, max_negative, max_zero, min_negative, variable_term, lone_variable, added, taken.
use Rattle.std.proofs.Common.{◌≡◌, ◌<◌, ◌≤◌, ◌+◌, ◌^◌, ℕ, Bool, true, false, List, [], ◌∷◌, ◌++◌, codes, Option, Some, Result, Ok, refl, sym, ap, subst, arith, pos, neg_ℤ}
use Rattle.std.specs.Prelude.{decimal}
use Rattle.std.specs.Str.{bytes_eq}
use Rattle.std.specs.Str.Parse.{AllDigits}
use Rattle.std.specs.Int.{IsInRange}
use Rattle.std.proofs.lemmas.List.{append-nil}
use Rattle.std.proofs.lemmas.Slice.Eq.{bytes_eq-Decides}
use Rattle.std.proofs.lemmas.Str.Parse.{digit_from_value}
use Rattle.std.proofs.lemmas.Fmt.{decimal_is_IsNumeral}
use Rattle.trop_theory.specs.Semiring.{Semiring}
use Rattle.trop_theory.specs.Numbers.{Numbering}
use Rattle.trop_grammar.specs.Grammar.{One, Empty, Then, Optional, LeftOut, Written}
use Rattle.trop_grammar.specs.Lists.{Passes}
use Rattle.trop_text.specs.Name.{is_name}
use Rattle.trop_text.specs.Names.{place_of}
use Rattle.trop_text.specs.Tokens.{Tok}
use Rattle.trop_text.specs.Pieces.{Piece, Token}
use Rattle.trop_text.specs.declared.token.TokenKind.{TokenKind}
use Rattle.trop_text.specs.declared.token.TokenKind.TheVariants.{Word, Digits, Sign}
use Rattle.trop_text.specs.declared.fault.FaultKind.{FaultKind}
use Rattle.trop_text.proofs.Written.{tok, IsOne}
use Rattle.trop_spelling.specs.declared.ring_kind.RingKind.{RingKind}
use Rattle.trop_spelling.specs.declared.ring_kind.RingKind.TheVariants.{Max as MaxKind, Min as MinKind, Bool as BoolKind}
use Rattle.trop_spelling.specs.Spelling.{sum_word}
use Rattle.trop_spelling.specs.declared.terms.Term.{Term}
use Rattle.trop_spelling.specs.declared.terms.Start.{Start}
use Rattle.trop_spelling.specs.declared.terms.Start.TheVariants.{Constant, Minus, Variable}
use Rattle.trop_reading.specs.Words.{says}
use Rattle.trop_spelling.specs.Elements.{max_behind, min_behind}
use Rattle.trop_spelling.specs.Inequalities.{term_start, max_term, variable, shift, shift_sign, term, IsShifted, IsTermRest, IsTerm, side_start, IsSideRest, IsSide}
use Rattle.trop_reading.proofs.NameWords.{false_if, not_named}
use Rattle.trop_reading.proofs.WrittenTexts.{number_passes}

-- ---- digits

-- no digit
abbrev NoDigit : ℕ → Type 0
NoDigit c = IsInRange 48 57 c → ⊥

module _ (n : ℕ) (small : n < 2 ^ 64) where
  digits_differ : (c : ℕ) (word : List ℕ) → NoDigit c → bytes_eq (decimal n) (c ∷ word) ≡ false
  digits_differ c word other = false_if _ differs
    where
      differs : bytes_eq (decimal n) (c ∷ word) ≡ true → ⊥
      differs e = other (digit_from_value c (subst (AllDigits 10) ((bytes_eq-Decides (decimal n) (c ∷ word)).0 e)
          (decimal_is_IsNumeral n small).0.1).0)

-- ---- terms

-- A term whose first token is not the sum word.
pub record IsPlainTerm {V : Type 0} (kind : RingKind) (R : Semiring V) (N : Numbering V) (bound : ℕ)
    (names : List (List ℕ)) (us : List Piece) (t : Term V) : Type 0 where
  pub first : Tok
  pub others : List Piece
  pub start : Start V
  pub whole : us ≡ Token first ∷ others
  pub begins : term_start kind R N bound names (Token first) ≡ Ok start
  pub unsummed : says (sum_word kind) (Token first) ≡ false
  pub rest : IsTermRest kind R N bound start others t

-- A side by its first token.
pub record IsOpenSide {V : Type 0} (kind : RingKind) (R : Semiring V) (N : Numbering V) (bound : ℕ)
    (names : List (List ℕ)) (us : List Piece) (terms : List (Term V)) : Type 0 where
  pub first : Tok
  pub others : List Piece
  pub start : Option (Start V)
  pub whole : us ≡ Token first ∷ others
  pub begins : side_start kind R N bound names (Token first) ≡ Ok start
  pub rest : IsSideRest kind R N bound names start others terms

module _ {V : Type 0} (kind : RingKind) (R : Semiring V) (N : Numbering V) (bound : ℕ) (names : List (List ℕ)) where
  pub plain_is_term : (us : List Piece) (t : Term V) → IsPlainTerm kind R N bound names us t →
      IsTerm kind R N bound names us t
  plain_is_term us t h = record {
    front = Token h.first ∷ [];
    back = h.others;
    value = h.start;
    whole = h.whole;
    first = record { token = Token h.first; whole = refl; is = h.begins };
    second = h.rest;
  }

  pub plain_is_side : (us : List Piece) (t : Term V) → IsPlainTerm kind R N bound names us t →
      IsOpenSide kind R N bound names us (t ∷ [])
  plain_is_side us t h = record {
    first = h.first;
    others = h.others;
    start = Some h.start;
    whole = h.whole;
    begins = rw (h.unsummed, h.begins) refl;
    rest = record {
      front = h.others;
      back = [];
      value = t;
      whole = sym (append-nil h.others);
      first = h.rest;
      second =
          record { none = refl; is = refl };
    };
  }

  pub open_is_side : (us : List Piece) (terms : List (Term V)) → IsOpenSide kind R N bound names us terms →
      IsSide kind R N bound names us terms
  open_is_side us terms h = record {
    front = Token h.first ∷ [];
    back = h.others;
    value = h.start;
    whole = h.whole;
    first = record { token = Token h.first; whole = refl; is = h.begins };
    second = h.rest;
  }

-- ---- constants

module _ {V : Type 0} (R : Semiring V) (N : Numbering V) (bound : ℕ) (names : List (List ℕ)) where
  -- a whole constant
  constant : (kind : RingKind) (x : V) (word : List ℕ) (token : TokenKind) (us : List Piece) (o : IsOne token word us)
      → term_start kind R N bound names (Token (tok token word o.line o.column)) ≡ Ok (Constant x) →
      bytes_eq word (sum_word kind) ≡ false → IsPlainTerm kind R N bound names us (term 0 x)
  constant kind x word token us o begins unsummed = record {
    first = tok token word o.line o.column;
    others = [];
    start = Constant x;
    whole = o.whole;
    begins = begins;
    unsummed = unsummed;
    rest = nothing kind;
  }
    where
      nothing : (kind : RingKind) → IsTermRest kind R N bound (Constant x) [] (term 0 x)
      nothing MaxKind = record { none = refl; is = refl }
      nothing MinKind = record { none = refl; is = refl }
      nothing BoolKind = record { none = refl; is = refl }

  max_digits : (n line column : ℕ) → n < 2 ^ 64 → n ≤ bound →
      max_term N bound names (Token (tok Digits (decimal n) line column)) ≡ Ok (Constant (N.of (pos n)))
  unfolding max_term
  max_digits n line column small within = rw (
    digits_differ n small 45 [] (λ h. omega (arith, h)),
    number_passes n bound line column within small,
  ) refl

  -- a number that is not negative
  pub max_number : (n : ℕ) (us : List Piece) → n < 2 ^ 64 → n ≤ bound → IsOne Digits (decimal n) us →
      IsPlainTerm MaxKind R N bound names us (term 0 (N.of (pos n)))
  unfolding term_start
  max_number n us small within o =
      constant MaxKind (N.of (pos n)) (decimal n) Digits us o (max_digits n o.line o.column small within)
      (digits_differ n small 109 _ (λ h. omega (arith, h)))

  pub min_number : (n : ℕ) (us : List Piece) → n < 2 ^ 64 → n ≤ bound → IsOne Digits (decimal n) us →
      IsPlainTerm MinKind R N bound names us (term 0 (N.of (pos n)))
  unfolding term_start
  min_number n us small within o =
      constant MinKind (N.of (pos n)) (decimal n) Digits us o
      (rw (digits_differ n small 111 (111 ∷ []) (λ h. omega (arith, h)))
      (max_digits n o.line o.column small within)) (digits_differ n small 109 _ (λ h. omega (arith, h)))

  -- the zeros, and the one of bool
  pub min_zero : (us : List Piece) → IsOne Word (codes "oo") us → IsPlainTerm MinKind R N bound names us (term 0 R.zero)
  unfolding term_start
  min_zero us o = constant MinKind R.zero (codes "oo") Word us o refl refl

  pub truth_zero : (us : List Piece) → IsOne Word (codes "false") us →
      IsPlainTerm BoolKind R N bound names us (term 0 R.zero)
  unfolding term_start
  truth_zero us o = constant BoolKind R.zero (codes "false") Word us o refl refl

  pub truth_one : (us : List Piece) → IsOne Word (codes "true") us →
      IsPlainTerm BoolKind R N bound names us (term 0 R.one)
  unfolding term_start
  truth_one us o = constant BoolKind R.one (codes "true") Word us o refl refl

  -- one token behind a `-`
  behind_minus : (behind : Piece → Result V FaultKind) (x : V) (word : List ℕ) (token : TokenKind) (vs : List Piece)
      (o : IsOne token word vs)
      → behind (Token (tok token word o.line o.column)) ≡ Ok x →
      Then (One (Passes behind)) (λ y. Empty (term 0 y)) vs (term 0 x)
  behind_minus behind x word token vs o passes = record {
    front = Token (tok token word o.line o.column) ∷ [];
    back = [];
    value = x;
    whole = o.whole;
    first = record { token = Token (tok token word o.line o.column); whole = refl; is = passes };
    second = record { none = refl; is = refl };
  }

  max_minus : (x : V) (us vs : List Piece) → IsOne Sign (codes "-") us →
      Then (One (Passes (max_behind R N bound))) (λ y. Empty (term 0 y)) vs (term 0 x) →
      IsPlainTerm MaxKind R N bound names (us ++ vs) (term 0 x)
  unfolding term_start max_term
  max_minus x us vs o rest = record {
    first = tok Sign (codes "-") o.line o.column;
    others = vs;
    start = Minus;
    whole = ap (λ ps. ps ++ vs) o.whole;
    begins = refl;
    unsummed = refl;
    rest = rest;
  }

  pub max_negative : (n : ℕ) (us vs : List Piece) → n < 2 ^ 64 → n ≤ bound → IsOne Sign (codes "-") us →
      IsOne Digits (decimal n) vs → IsPlainTerm MaxKind R N bound names (us ++ vs) (term 0 (N.of (neg_ℤ (pos n))))
  max_negative n us vs small within o p =
      max_minus _ us vs o (behind_minus (max_behind R N bound) _ (decimal n) Digits vs p
      (rw (
        digits_differ n small 111 (111 ∷ []) (λ h. omega (arith, h)),
        number_passes n bound p.line p.column within small,
      ) refl))

  pub max_zero : (us vs : List Piece) → IsOne Sign (codes "-") us → IsOne Word (codes "oo") vs →
      IsPlainTerm MaxKind R N bound names (us ++ vs) (term 0 R.zero)
  max_zero us vs o p = max_minus _ us vs o (behind_minus (max_behind R N bound) R.zero (codes "oo") Word vs p refl)

  pub min_negative : (n : ℕ) (us vs : List Piece) → n < 2 ^ 64 → n ≤ bound → IsOne Sign (codes "-") us →
      IsOne Digits (decimal n) vs → IsPlainTerm MinKind R N bound names (us ++ vs) (term 0 (N.of (neg_ℤ (pos n))))
  unfolding term_start max_term
  min_negative n us vs small within o p = record {
    first = tok Sign (codes "-") o.line o.column;
    others = vs;
    start = Minus;
    whole = ap (λ ps. ps ++ vs) o.whole;
    begins = refl;
    unsummed = refl;
    rest = behind_minus (min_behind N bound) _ (decimal n) Digits vs p
        (rw (number_passes n bound p.line p.column within small) refl);
  }

-- ---- variables

module _ {V : Type 0} (R : Semiring V) (N : Numbering V) (bound : ℕ) (names : List (List ℕ)) (name : List ℕ) (k : ℕ)
    (named : is_name name ≡ true) (place : place_of name names ≡ Some k) where
  module _ (line column : ℕ) where
    variable_passes : variable {V = V} names (Token (tok Word name line column)) ≡ Ok (Variable (k + 1))
    unfolding variable
    variable_passes = rw (named, place) refl

    max_variable : max_term N bound names (Token (tok Word name line column)) ≡ Ok (Variable (k + 1))
    unfolding max_term
    max_variable = rw (not_named name (codes "-") named refl) variable_passes

    variable_begins : (kind : RingKind) → term_start kind R N bound names (Token (tok Word name line column)) ≡ Ok
        (Variable (k + 1))
    unfolding term_start
    variable_begins MaxKind = max_variable
    variable_begins MinKind = rw (not_named name (codes "oo") named refl) max_variable
    variable_begins BoolKind = rw (not_named name (codes "true") named refl, not_named name (codes "false") named refl)
        variable_passes

  no_sum_word : (kind : RingKind) → bytes_eq name (sum_word kind) ≡ false
  no_sum_word MaxKind = not_named name (codes "max") named refl
  no_sum_word MinKind = not_named name (codes "min") named refl
  no_sum_word BoolKind = not_named name (codes "or") named refl

  -- what stands behind the variable makes the term
  pub variable_term : (kind : RingKind) (us vs : List Piece) (t : Term V) → IsOne Word name us →
      IsTermRest kind R N bound (Variable (k + 1)) vs t → IsPlainTerm kind R N bound names (us ++ vs) t
  variable_term kind us vs t o rest = record {
    first = tok Word name o.line o.column;
    others = vs;
    start = Variable (k + 1);
    whole = ap (λ ps. ps ++ vs) o.whole;
    begins = variable_begins o.line o.column kind;
    unsummed = no_sum_word kind;
    rest = rest;
  }

module _ {V : Type 0} (R : Semiring V) (N : Numbering V) (bound i : ℕ) where
  -- the variable alone
  pub lone_variable : (kind : RingKind) → IsTermRest kind R N bound (Variable i) [] (term i R.one)
  lone_variable MaxKind = LeftOut refl refl
  lone_variable MinKind = LeftOut refl refl
  lone_variable BoolKind = record { none = refl; is = refl }

  -- a number behind it
  shifted : (up : Bool) (sign digits : List ℕ) (x : V) (us vs : List Piece) (o : IsOne Sign sign us)
      (p : IsOne Digits digits vs)
      → shift_sign (Token (tok Sign sign o.line o.column)) ≡ Some up →
      shift N bound up (Token (tok Digits digits p.line p.column)) ≡ Ok x
      → Optional shift_sign (term i R.one) (IsShifted N bound i) (us ++ vs) (term i x)
  shifted up sign digits x us vs o p announced passes =
      let number = Token (tok Digits digits p.line p.column) in
      Written (Token (tok Sign sign o.line o.column)) up vs (ap (λ ps. ps ++ vs) o.whole) announced (record {
        front = number ∷ [];
        back = [];
        value = x;
        whole = p.whole;
        first = record { token = number; whole = refl; is = passes };
        second = record { none = refl; is = refl };
      })

  pub added : (n : ℕ) (us vs : List Piece) → n < 2 ^ 64 → n ≤ bound → IsOne Sign (codes "+") us →
      IsOne Digits (decimal n) vs
      → Optional shift_sign (term i R.one) (IsShifted N bound i) (us ++ vs) (term i (N.of (pos n)))
  added n us vs small within o p = shifted true (codes "+") (decimal n) (N.of (pos n)) us vs o p refl
      (rw (number_passes n bound p.line p.column within small) refl)

  pub taken : (n : ℕ) (us vs : List Piece) → n < 2 ^ 64 → n ≤ bound → IsOne Sign (codes "-") us →
      IsOne Digits (decimal n) vs
      → Optional shift_sign (term i R.one) (IsShifted N bound i) (us ++ vs) (term i (N.of (neg_ℤ (pos n))))
  taken n us vs small within o p = shifted false (codes "-") (decimal n) (N.of (neg_ℤ (pos n))) us vs o p refl
      (rw (number_passes n bound p.line p.column within small) refl)
