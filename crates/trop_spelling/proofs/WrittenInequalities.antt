-- Printed inequalities are read back.
-- Index: IsOpenInequality, open_is_inequality, open_has_token, inequality_written.
use Rattle.std.proofs.Common.{◌≡◌, ◌<◌, ◌≤◌, ◌+◌, ◌^◌, ℕ, Bool, false, List, [], ◌∷◌, ◌++◌, length, Option, Ok, refl, sym, ap, ◌∙◌, subst, arith, append_assoc}
use Rattle.trop_theory.specs.Semiring.{Semiring}
use Rattle.trop_theory.specs.Numbers.{Numbering, NumberLaws}
use Rattle.trop_theory.specs.Inequalities.{Inequality, IsIn, inequality_size}
use Rattle.trop_grammar.specs.Grammar.{One, Empty, Then}
use Rattle.trop_grammar.specs.Lists.{Passes}
use Rattle.trop_text.specs.Names.{AreNames}
use Rattle.trop_text.specs.Tokens.{Tok}
use Rattle.trop_text.specs.Pieces.{Piece, Token, LineEnd}
use Rattle.trop_text.specs.declared.token.TokenKind.TheVariants.{Sign}
use Rattle.trop_text.proofs.Written.{tok, IsOne, IsWritten, written_join}
use Rattle.trop_text.proofs.WrittenTokens.{StopsWord, Always, long_written, blank_written}
use Rattle.trop_spelling.specs.declared.ring_kind.RingKind.{RingKind}
use Rattle.trop_spelling.specs.declared.ring_kind.RingKind.TheVariants.{Max as MaxKind, Min as MinKind, Bool as BoolKind}
use Rattle.trop_spelling.specs.Spelling.{KindLaws, order_word}
use Rattle.trop_spelling.specs.Printed.{printed_inequality}
use Rattle.trop_spelling.specs.declared.terms.Term.{Term}
use Rattle.trop_spelling.specs.declared.terms.Start.{Start}
use Rattle.trop_reading.specs.Words.{line_end}
use Rattle.trop_spelling.specs.Inequalities.{side_start, IsSide, coefficients, order_mark, inequality, IsInequalityRest, IsInequality}
use Rattle.trop_spelling.proofs.Coefficients.{written_terms, written_read_back}
use Rattle.trop_spelling.proofs.PrintedTerms.{IsOpenSide, open_is_side}
use Rattle.trop_spelling.proofs.WrittenSides.{zero_is, side_written}

-- ---- the order word

order_written : (kind : RingKind) → IsWritten Always (order_word kind) (IsOne Sign (order_word kind))
order_written MaxKind = long_written 60 61 (record
    { stands = (refl, refl, refl); no_letter = refl; no_digit = refl; long = refl })
order_written MinKind = long_written 62 61 (record
    { stands = (refl, refl, refl); no_letter = refl; no_digit = refl; long = refl })
order_written BoolKind = long_written 61 62 (record
    { stands = (refl, refl, refl); no_letter = refl; no_digit = refl; long = refl })

order_passes : (kind : RingKind) (line column : ℕ) →
    order_mark kind (Token (tok Sign (order_word kind) line column)) ≡ Ok false
order_passes MaxKind line column = refl
order_passes MinKind line column = refl
order_passes BoolKind line column = refl

-- ---- an inequality

-- An inequality by its first token; the end of its line is still to come.
pub record IsOpenInequality {V : Type 0} (kind : RingKind) (R : Semiring V) (N : Numbering V) (bound : ℕ)
    (names : List (List ℕ)) (p : Inequality V) (us : List Piece) : Type 0 where
  pub first : Tok
  pub others : List Piece
  pub start : Option (Start V)
  pub whole : us ≡ Token first ∷ others
  pub begins : side_start kind R N bound names (Token first) ≡ Ok start
  pub rest : (line : ℕ) → IsInequalityRest kind R N bound names start (others ++ LineEnd line ∷ []) p

abbrev sides : {V : Type 0} → List V → List V → Inequality V
sides left right = record { left = left; right = right }

module _ {V : Type 0} (kind : RingKind) (R : Semiring V) (N : Numbering V) (bound : ℕ) (names : List (List ℕ)) where
  -- the order word and a side
  record IsOrdered (terms : List (Term V)) (us : List Piece) : Type 0 where
    line : ℕ
    column : ℕ
    others : List Piece
    whole : us ≡ Token (tok Sign (order_word kind) line column) ∷ others
    side : IsSide kind R N bound names others terms

  ordered : (terms : List (Term V)) (us vs : List Piece) → IsOne Sign (order_word kind) us →
      IsOpenSide kind R N bound names vs terms → IsOrdered terms (us ++ vs)
  ordered terms us vs o h = record {
    line = o.line;
    column = o.column;
    others = vs;
    whole = ap (λ ps. ps ++ vs) o.whole;
    side = open_is_side kind R N bound names vs terms h;
  }

  -- the order word, a side and the end of the line
  right_side : (left right : List (Term V)) (p : Inequality V) (line : ℕ) (vs : List Piece) →
      p ≡ inequality R (length names + 1) false left right → IsOrdered right vs
      → Then (One (Passes (order_mark kind))) (λ turned. Then (IsSide kind R N bound names)
      (λ q. Then (One (Passes line_end)) (λ u. Empty (inequality R (length names + 1) turned left q))))
      (vs ++ LineEnd line ∷ []) p
  right_side left right p line vs e h =
      let mark = Token (tok Sign (order_word kind) h.line h.column) in
      record {
        front = mark ∷ [];
        back = h.others ++ LineEnd line ∷ [];
        value = false;
        whole = ap (λ ps. ps ++ LineEnd line ∷ []) h.whole;
        first = record { token = mark; whole = refl; is = order_passes kind h.line h.column };
        second = record {
          front = h.others;
          back = LineEnd line ∷ [];
          value = right;
          whole = refl;
          first = h.side;
          second = record {
            front = LineEnd line ∷ [];
            back = [];
            value = tt;
            whole = refl;
            first =
                record { token = LineEnd line; whole = refl; is = refl };
            second = record { none = refl; is = e };
          };
        };
      }

  both_sides : (left right : List (Term V)) (p : Inequality V) → p ≡ inequality R (length names + 1) false left right →
      (us vs : List Piece) → IsOpenSide kind R N bound names us left → IsOrdered right vs →
      IsOpenInequality kind R N bound names p (us ++ vs)
  both_sides left right p e us vs g h = record {
    first = g.first;
    others = g.others ++ vs;
    start = g.start;
    whole = ap (λ ps. ps ++ vs) g.whole;
    begins = g.begins;
    rest = λ line. record {
      front = g.others;
      back = vs ++ LineEnd line ∷ [];
      value = left;
      whole = append_assoc g.others vs (LineEnd line ∷ []);
      first = g.rest;
      second = right_side left right p line vs e h;
    };
  }

  pub open_is_inequality : (p : Inequality V) (us : List Piece) (line : ℕ) →
      IsOpenInequality kind R N bound names p us → IsInequality kind R N bound names (us ++ LineEnd line ∷ []) p
  open_is_inequality p us line h = record {
    front = Token h.first ∷ [];
    back = h.others ++ LineEnd line ∷ [];
    value = h.start;
    whole = ap (λ ps. ps ++ LineEnd line ∷ []) h.whole;
    first = record { token = Token h.first; whole = refl; is = h.begins };
    second = h.rest line;
  }

  pub open_has_token : (p : Inequality V) → IsOpenInequality kind R N bound names p [] → ⊥
  open_has_token p h = let e = h.whole in cc

module _ {V : Type 0} (kind : RingKind) (reversed : Bool) (R : Semiring V) (N : Numbering V)
    (laws : KindLaws kind R N reversed) (numbers_are : NumberLaws R N) (neutral : (a : V) → R.plus R.zero a ≡ a)
    (bound : ℕ) (names : List (List ℕ)) (small : bound < 2 ^ 64) (are : AreNames names) where
  coefficients_are : (side : List V) → length side ≡ length names + 1 →
      side ≡ coefficients R (length names + 1) (written_terms R N side)
  coefficients_are side wide = sym (subst (λ n. coefficients R n (written_terms R N side) ≡ side) wide
      (written_read_back R N neutral (zero_is R N numbers_are) side))

  pub inequality_written : (p : Inequality V) → IsIn (length names + 1) p → inequality_size R p ≤ bound →
      IsWritten StopsWord (printed_inequality kind N names p) (IsOpenInequality kind R N bound names p)
  inequality_written p wide s =
      let left = written_terms R N p.left in
      let right = written_terms R N p.right in
      let same : p ≡ inequality R (length names + 1) false left right =
      ap (λ side. sides side p.right) (coefficients_are p.left wide.left)
      ∙ ap (λ side. sides (coefficients R (length names + 1) left) side) (coefficients_are p.right wide.right) in
      let side = side_written kind reversed R N laws numbers_are bound names small are in
      let behind = written_join (ordered kind R N bound names right) (λ rest t. tt) (order_written kind)
      (blank_written (side p.right wide.right (omega arith))) in
      written_join (both_sides kind R N bound names left right p same) (λ rest t. refl)
      (side p.left wide.left (omega arith)) (blank_written behind)
