-- A printed inequality and a printed row are read back as they are.
use Rattle.std.proofs.Common.{◌≡◌, ◌<◌, ◌≤◌, ◌+◌, ◌^◌, ℕ, zero, suc, Bool, List, [], ◌∷◌, ◌++◌, map, length, refl, sym, ap, ◌∙◌, subst, append_assoc}
use Rattle.std.proofs.lemmas.List.{length-map}
use Rattle.trop_theory.specs.Semiring.{Semiring}
use Rattle.trop_theory.specs.Numbers.{Numbering, NumberLaws}
use Rattle.trop_theory.specs.Vectors.{row_size}
use Rattle.trop_theory.specs.Inequalities.{Inequality, IsIn, inequality_size}
use Rattle.trop_text.specs.Names.{AreNames}
use Rattle.trop_text.specs.Pieces.{Piece, LineEnd, InputEnd}
use Rattle.trop_text.proofs.WrittenLines.{line_whole}
use Rattle.trop_reading.specs.InLines.{IsOnlyLine}
use Rattle.trop_spelling.specs.declared.ring_kind.RingKind.{RingKind}
use Rattle.trop_spelling.specs.Spelling.{KindLaws}
use Rattle.trop_spelling.specs.Printed.{numbers, printed_row, printed_inequality}
use Rattle.trop_spelling.specs.Elements.{IsRow}
use Rattle.trop_spelling.specs.Inequalities.{IsInequality}
use Rattle.trop_spelling.specs.Parts.{IsRowLine}
use Rattle.trop_spelling.proofs.WrittenElements.{named, row_written}
use Rattle.trop_spelling.proofs.WrittenInequalities.{open_is_inequality, open_has_token, inequality_written}
use Rattle.trop_spelling.proofs.KindLaws.{named_row, within}

-- ---- texts of one inequality

module _ {V : Type 0} (kind : RingKind) (reversed : Bool) (R : Semiring V) (N : Numbering V)
    (laws : KindLaws kind R N reversed) (numbers_are : NumberLaws R N) (neutral : (a : V) → R.plus R.zero a ≡ a)
    (bound : ℕ) (names : List (List ℕ)) (small : bound < 2 ^ 64) (are : AreNames names) where
  pub inequality_read_back : (p : Inequality V) → IsIn (length names + 1) p → inequality_size R p ≤ bound →
      IsOnlyLine (IsInequality kind R N bound names) (printed_inequality kind N names p) p
  inequality_read_back p wide s =
      let line = line_whole (λ ps. (front : List Piece) × (ps ≡ front ++ InputEnd ∷ [])
      × IsInequality kind R N bound names front p) tt (open_has_token kind R N bound names p)
      (λ us h. (
        us ++ LineEnd 1 ∷ [],
        sym (append_assoc us (LineEnd 1 ∷ []) (InputEnd ∷ [])),
        open_is_inequality kind R N bound names p us 1 h,
      ))
      (inequality_written kind reversed R N laws numbers_are neutral bound names small are p wide s) in
      record { front = line.0; whole = line.1; line = line.2 }

-- ---- texts of one row

module _ {V : Type 0} (kind : RingKind) (reversed : Bool) (R : Semiring V) (N : Numbering V) (laws : NumberLaws R N)
    (known : KindLaws kind R N reversed) where
  row_has_token : (bound n : ℕ) (x : List V) → IsRow kind R N bound n [] x → ⊥
  unfolding IsRow
  row_has_token bound zero x h = let e : [] ≡ h.first.token ∷ h.back =
      h.whole ∙ ap (λ (us : List Piece). us ++ h.back) h.first.whole in absurd cc
  row_has_token bound (suc n) x h = let e : [] ≡ h.first.token ∷ h.back =
      h.whole ∙ ap (λ (us : List Piece). us ++ h.back) h.first.whole in absurd cc

  row_line : (bound n : ℕ) (x : List V) (us : List Piece) → IsRow kind R N bound n us x →
      IsRowLine kind R N bound n (us ++ LineEnd 1 ∷ []) x
  row_line bound n x us h = record {
    front = us;
    back = LineEnd 1 ∷ [];
    value = x;
    whole = refl;
    first = h;
    second = record {
      front = LineEnd 1 ∷ [];
      back = [];
      value = tt;
      whole = refl;
      first =
          record { token = LineEnd 1; whole = refl; is = refl };
      second = record { none = refl; is = refl };
    };
  }

  -- a line is all that these pieces are
  record IsLineOf (bound n : ℕ) (x : List V) (all : List Piece) : Type 0 where
    front : List Piece
    whole : all ≡ front ++ InputEnd ∷ []
    line : IsRowLine kind R N bound n front x

  -- a printed row is read back as it is
  pub row_read_back : (bound : ℕ) (x : List V) → bound < 2 ^ 63 → row_size R x ≤ bound →
      IsOnlyLine (IsRowLine kind R N bound (length x)) (printed_row kind (numbers N x)) x
  row_read_back bound x low small =
      let os = numbers N x in
      let row = map (named kind R N) os in
      let to : (us : List Piece) → IsRow kind R N bound (length os) us row →
      IsLineOf bound (length os) row (us ++ LineEnd 1 ∷ InputEnd ∷ []) =
      λ us h. record {
        front = us ++ LineEnd 1 ∷ [];
        whole = sym (append_assoc us (LineEnd 1 ∷ []) (InputEnd ∷ []));
        line = row_line bound (length os) row us h;
      } in
      let all = line_whole (IsLineOf bound (length os) row) tt (row_has_token bound (length os) row) to
      (row_written R N bound low kind os (within kind reversed R N laws known bound x small)) in
      let same : row ≡ x = named_row kind reversed R N laws known x in
      let count : length os ≡ length x = length-map x N.to in
      record {
        front = all.front;
        whole = all.whole;
        line =
            subst (λ (y : List V). IsRowLine kind R N bound (length x) all.front y) same
            (subst (λ (n : ℕ). IsRowLine kind R N bound n all.front row) count all.line);
      }
