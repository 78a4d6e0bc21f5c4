-- A printed element and a printed row are read as what they were printed from.
use Rattle.std.proofs.Common.{◌≡◌, ◌≤◌, ◌<◌, ◌^◌, ℕ, suc, List, [], ◌∷◌, ◌++◌, map, length, codes, Option, Some, None, Result, Ok, refl, sym, subst, arith, pos, append_assoc, append-nil}
use Rattle.std.specs.Prelude.{ℤ, negsuc}
use Rattle.trop_theory.specs.Semiring.{Semiring}
use Rattle.trop_theory.specs.Numbers.{Numbering}
use Rattle.trop_scalar.specs.MaxPlus.{magnitude}
use Rattle.trop_grammar.specs.Grammar.{One, Then, Repeated}
use Rattle.trop_grammar.specs.Lists.{Passes}
use Rattle.trop_text.specs.Pieces.{Piece, Token}
use Rattle.trop_text.specs.declared.token.TokenKind.TheVariants.{Word, Digits, Sign}
use Rattle.trop_text.proofs.Written.{tok, IsWritten}
use Rattle.trop_text.proofs.WrittenTokens.{Always, StopsWord, word_written, digits_written, short_written, blank_written}
use Rattle.trop_text.specs.declared.fault.FaultKind.{FaultKind}
use Rattle.trop_spelling.specs.declared.ring_kind.RingKind.{RingKind}
use Rattle.trop_spelling.specs.declared.ring_kind.RingKind.TheVariants.{Max as MaxKind, Min as MinKind, Bool as BoolKind}
use Rattle.trop_spelling.specs.Spelling.{element_text}
use Rattle.trop_spelling.specs.Printed.{after_commas, printed_row}
use Rattle.trop_spelling.specs.Elements.{Behind, IsElement, IsNextEntry, IsRow}
use Rattle.trop_reading.proofs.WrittenTexts.{close_alone, comma_alone, minus_alone, no_infinity, no_minus, none_written, number_passes, open_alone, sign_said, written_last, written_then, written_token}

-- ---- elements

-- the element of which this is the number, and the zero where there is none
abbrev pub named : {V : Type 0} → RingKind → Semiring V → Numbering V → Option ℤ → V
named kind R N None = R.zero
named MaxKind R N (Some n) = N.of n
named MinKind R N (Some n) = N.of n
named BoolKind R N (Some n) = R.one

module _ {V : Type 0} (R : Semiring V) (N : Numbering V) (bound : ℕ) (low : bound < 2 ^ 63) where
  -- a `-` and what stands behind it
  minus_written : {start : Piece → Result (Option V) FaultKind} {behind : Piece → Result V FaultKind} {text : List ℕ}
      (x : V) → ((line column : ℕ) → start (Token (tok Sign (codes "-") line column)) ≡ Ok None)
      → IsWritten StopsWord text (λ us. One (Passes behind) us x) →
      IsWritten StopsWord (codes "-" ++ text) (λ us. Then (One (Passes start)) (Behind behind) us x)
  minus_written {text = text} x passes rest = written_then None x (codes "-") text (λ r h. tt)
      (written_token Sign None passes (short_written 45 minus_alone)) rest

  -- a whole element in one token
  whole_written : {start : Piece → Result (Option V) FaultKind} {behind : Piece → Result V FaultKind} {text : List ℕ}
      (x : V) → IsWritten StopsWord text (λ us. One (Passes start) us (Some x)) →
      IsWritten StopsWord text (λ us. Then (One (Passes start)) (Behind behind) us x)
  whole_written x one = written_last (Some x) x (record { none = refl; is = refl }) one

  max_written : (o : Option ℤ) → magnitude o ≤ bound →
      IsWritten StopsWord (element_text MaxKind o) (λ us. IsElement MaxKind R N bound us (named MaxKind R N o))
  unfolding IsElement
  max_written None small = minus_written R.zero (λ line column. refl)
      (written_token Word R.zero (λ line column. refl) (word_written (codes "oo") refl))
  max_written (Some (pos n)) small =
      let h : n < 2 ^ 64 = omega arith in
      whole_written (N.of (pos n)) (written_token Digits (Some (N.of (pos n)))
      (λ line column. rw (no_minus n h, number_passes n bound line column small h) refl) (digits_written n h))
  max_written (Some (negsuc n)) small =
      let h : suc n < 2 ^ 64 = omega arith in
      minus_written (N.of (negsuc n)) (λ line column. refl)
      (written_token Digits (N.of (negsuc n)) (λ line column.
      rw (no_infinity (suc n) h, number_passes (suc n) bound line column small h) refl) (digits_written (suc n) h))

  min_written : (o : Option ℤ) → magnitude o ≤ bound →
      IsWritten StopsWord (element_text MinKind o) (λ us. IsElement MinKind R N bound us (named MinKind R N o))
  unfolding IsElement
  min_written None small = whole_written R.zero (written_token Word (Some R.zero) (λ line column. refl)
      (word_written (codes "oo") refl))
  min_written (Some (pos n)) small =
      let h : n < 2 ^ 64 = omega arith in
      whole_written (N.of (pos n))
      (written_token Digits (Some (N.of (pos n))) (λ line column.
      rw (no_infinity n h, no_minus n h, number_passes n bound line column small h) refl) (digits_written n h))
  min_written (Some (negsuc n)) small =
      let h : suc n < 2 ^ 64 = omega arith in
      minus_written (N.of (negsuc n)) (λ line column. refl)
      (written_token Digits (N.of (negsuc n)) (λ line column.
      rw (number_passes (suc n) bound line column small h) refl) (digits_written (suc n) h))

  truth_written : (o : Option ℤ) → IsWritten StopsWord (element_text BoolKind o)
      (λ us. IsElement BoolKind R N bound us (named BoolKind R N o))
  unfolding IsElement
  truth_written None = written_token Word R.zero (λ line column. refl) (word_written (codes "false") refl)
  truth_written (Some n) = written_token Word R.one (λ line column. refl) (word_written (codes "true") refl)

  pub element_written : (kind : RingKind) (o : Option ℤ) → magnitude o ≤ bound →
      IsWritten StopsWord (element_text kind o) (λ us. IsElement kind R N bound us (named kind R N o))
  element_written MaxKind o small = max_written o small
  element_written MinKind o small = min_written o small
  element_written BoolKind o small = truth_written o

-- ---- rows

-- each number is at most the bound in size
abbrev pub AreWithin : ℕ → List (Option ℤ) → Type 0
AreWithin bound [] = Unit {0}
AreWithin bound (o ∷ os) = (magnitude o ≤ bound) × AreWithin bound os

-- no comma goes on with an element
pub stops_at_comma : (texts : List (List ℕ)) (rest : List ℕ) → StopsWord rest → StopsWord (after_commas texts ++ rest)
stops_at_comma [] rest h = h
stops_at_comma (t ∷ texts) rest h = refl

stops_at_bracket : (texts : List (List ℕ)) (rest : List ℕ) → StopsWord ((after_commas texts ++ codes "]") ++ rest)
stops_at_bracket [] rest = refl
stops_at_bracket (t ∷ texts) rest = refl

module _ {V : Type 0} (R : Semiring V) (N : Numbering V) (bound : ℕ) (low : bound < 2 ^ 63) (kind : RingKind) where
  next_written : (xs : List V) (o : Option ℤ) → magnitude o ≤ bound →
      IsWritten StopsWord (codes "," ++ (codes " " ++ element_text kind o))
      (λ us. IsNextEntry kind R N bound xs us (xs ++ named kind R N o ∷ []))
  next_written xs o small =
      written_then tt (xs ++ named kind R N o ∷ []) (codes ",") (codes " " ++ element_text kind o) (λ r h. tt)
      (sign_said 44 comma_alone)
      (blank_written (written_last (named kind R N o) (xs ++ named kind R N o ∷ []) (record { none = refl; is = refl })
      (element_written R N bound low kind o small)))

  entries_written : (xs : List V) (os : List (Option ℤ)) → AreWithin bound os →
      IsWritten StopsWord (after_commas (map (element_text kind) os))
      (λ us. Repeated (IsNextEntry kind R N bound) (length os) xs us (xs ++ map (named kind R N) os))
  unfolding Repeated
  entries_written xs [] small = none_written (record { none = refl; is = append-nil xs })
  entries_written xs (o ∷ os) small =
      let x = named kind R N o in
      let others = map (named kind R N) os in
      subst (λ (ys : List V). IsWritten StopsWord (after_commas (map (element_text kind) (o ∷ os)))
      (λ us. Repeated (IsNextEntry kind R N bound) (length (o ∷ os)) xs us ys)) (append_assoc xs (x ∷ []) others)
      (written_then (xs ++ x ∷ []) (xs ++ x ∷ [] ++ others) (codes "," ++ (codes " " ++ element_text kind o))
      (after_commas (map (element_text kind) os)) (stops_at_comma (map (element_text kind) os))
      (next_written xs o small.0)
      (entries_written (xs ++ x ∷ []) os small.1))

  pub row_written : (os : List (Option ℤ)) → AreWithin bound os →
      IsWritten Always (printed_row kind os) (λ us. IsRow kind R N bound (length os) us (map (named kind R N) os))
  unfolding IsRow
  row_written [] small = written_then tt [] (codes "[") (codes "]") (λ r h. tt) (sign_said 91 open_alone)
      (written_last tt [] (record { none = refl; is = refl }) (sign_said 93 close_alone))
  row_written (o ∷ os) small =
      let x = named kind R N o in
      let row = x ∷ map (named kind R N) os in
      let first = element_text kind o in
      let others = after_commas (map (element_text kind) os) in
      let end = written_last tt row (record { none = refl; is = refl }) (sign_said 93 close_alone) in
      let behind = written_then row row others (codes "]") (λ r h. refl) (entries_written (x ∷ []) os small.1) end in
      let inside = written_then x row first (others ++ codes "]")
      (λ r h. stops_at_bracket (map (element_text kind) os) r) (element_written R N bound low kind o small.0) behind
      in
      subst (λ (t : List ℕ). IsWritten Always (codes "[" ++ t) (λ us. IsRow kind R N bound (length (o ∷ os)) us row))
      (sym (append_assoc first others (codes "]")))
      (written_then tt row (codes "[") (first ++ (others ++ codes "]")) (λ r h. tt) (sign_said 91 open_alone) inside)
