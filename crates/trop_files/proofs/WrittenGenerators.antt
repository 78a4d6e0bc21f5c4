-- Printed generators, and the files of them, are read back.
-- Index: line_row, Line, lines_written, AreFinite, generators.
use Rattle.std.proofs.Common.{◌≡◌, ◌≢◌, ◌≤◌, ◌+◌, ℕ, true, List, [], ◌∷◌, ◌++◌, map, length, codes, Option, Some, None, Ok, refl, sym, ap, ◌∙◌, subst, arith, append_assoc, append-nil}
use Rattle.std.specs.Prelude.{ℤ}
use Rattle.std.specs.List.{list_any}
use Rattle.trop_theory.specs.Semiring.{Semiring}
use Rattle.trop_theory.specs.Numbers.{Numbering}
use Rattle.trop_grammar.specs.Grammar.{One, Empty, Then}
use Rattle.trop_grammar.specs.Lists.{AreItems, Item}
use Rattle.trop_text.specs.Name.{is_word}
use Rattle.trop_text.specs.Pieces.{Piece, Token, LineEnd, InputEnd}
use Rattle.trop_text.specs.declared.token.TokenKind.TheVariants.{Word}
use Rattle.trop_text.proofs.Written.{tok, IsWritten, written_as}
use Rattle.trop_text.proofs.WrittenTokens.{Always, StopsWord, word_written, blank_written}
use Rattle.trop_text.proofs.WrittenLines.{AreLines, lines_none, lines_one, lines_join}
use Rattle.trop_spelling.specs.declared.ring_kind.RingKind.{RingKind}
use Rattle.trop_files.specs.PrintedFiles.{lines_of, generator_line}
use Rattle.trop_spelling.specs.Printed.{printed_row}
use Rattle.trop_reading.specs.Words.{is_input_end}
use Rattle.trop_spelling.specs.Elements.{IsRow}
use Rattle.trop_files.specs.Generators.{greatest_number, most_generators, generator_word, next_generator, IsGenerator, AreGenerators, is_finite, kept}
use Rattle.trop_spelling.proofs.WrittenElements.{named, AreWithin, row_written}
use Rattle.trop_reading.proofs.WrittenTexts.{written_then, written_last}
use Rattle.trop_files.proofs.WrittenNumbers.{FitsLine, FitFile}

-- ---- a line

module _ {V : Type 0} (kind : RingKind) (R : Semiring V) (N : Numbering V) where
  -- the vector of a line: at coordinate 0 the word of the line tells the one from the zero
  abbrev pub line_row : List (Option ℤ) → List V
  line_row [] = []
  line_row (None ∷ os) = R.zero ∷ map (named kind R N) os
  line_row (Some n ∷ os) = R.one ∷ map (named kind R N) os

  abbrev pub Line : ℕ → List (List V) → List Piece → List V → Type 0
  Line vars = Item (next_generator R is_input_end) (λ rows. IsGenerator kind R N vars)

  -- a line without its end: the word and the row
  abbrev OpenLine : ℕ → List (List V) → List Piece → List V → Type 0
  OpenLine vars rows = Then (One (λ t (c : V). next_generator R is_input_end rows t ≡ Ok (Some c)))
      (λ c. Then (IsRow kind R N greatest_number vars) (λ row. Empty (c ∷ row)))

  some_token : (vars : ℕ) (rows : List (List V)) (y : List V) → OpenLine vars rows [] y → ⊥
  some_token vars rows y h = let e : [] ≡ h.first.token ∷ h.back =
      h.whole ∙ ap (λ (us : List Piece). us ++ h.back) h.first.whole in absurd cc

  ended : (vars : ℕ) (rows : List (List V)) (y : List V) (line : ℕ) (us : List Piece) → OpenLine vars rows us y →
      Line vars rows (us ++ LineEnd line ∷ []) y
  ended vars rows y line us h =
      let end : List Piece = LineEnd line ∷ [] in
      let s = h.second in
      let inner : h.back ++ end ≡ s.front ++ end =
      ap (λ (vs : List Piece). vs ++ end) (s.whole ∙ ap (λ (vs : List Piece). s.front ++ vs) s.second.none
      ∙ append-nil s.front) in
      record {
        front = h.front;
        back = h.back ++ end;
        value = h.value;
        whole = ap (λ (vs : List Piece). vs ++ end) h.whole ∙ append_assoc h.front h.back end;
        first = h.first;
        second = record {
          front = s.front;
          back = end;
          value = s.value;
          whole = inner;
          first = s.first;
          second = record {
            front = end;
            back = [];
            value = tt;
            whole = refl;
            first =
                record { token = LineEnd line; whole = refl; is = refl };
            second =
                record { none = refl; is = s.second.is };
          };
        };
      }

  word_line : (vars : ℕ) (rows : List (List V)) (word : List ℕ) (first : V) (os : List (Option ℤ)) →
      IsWritten StopsWord word (λ us. One (λ t (c : V). next_generator R is_input_end rows t ≡ Ok (Some c)) us first)
      → length os ≡ vars → AreWithin greatest_number os →
      IsWritten Always (word ++ (codes " " ++ printed_row kind os))
      (λ us. OpenLine vars rows us (first ∷ map (named kind R N) os))
  word_line vars rows word first os one wide small =
      let row = map (named kind R N) os in
      let behind = subst (λ (n : ℕ). IsWritten Always (printed_row kind os)
      (λ us. IsRow kind R N greatest_number n us row)) wide
      (row_written R N greatest_number (omega arith) kind os small) in
      written_then first (first ∷ row) word (codes " " ++ printed_row kind os) (λ r h. refl) one
      (blank_written (written_last row (first ∷ row) (record { none = refl; is = refl }) behind))

  begun : (rows : List (List V)) (word : List ℕ) (first : V) → is_word word ≡ true →
      ((line column : ℕ) → next_generator R is_input_end rows (Token (tok Word word line column)) ≡ Ok (Some first))
      → IsWritten StopsWord word (λ us. One (λ t (c : V). next_generator R is_input_end rows t ≡ Ok (Some c)) us first)
  begun rows word first is passes = written_as (λ us g.
      record { token = Token (tok Word word g.line g.column); whole = g.whole; is = passes g.line g.column })
      (λ rest h. h) (word_written word is)

  line_written : (vars : ℕ) (rows : List (List V)) (entries : List (Option ℤ)) → FitsLine vars entries →
      IsWritten Always (generator_line kind entries) (λ us. OpenLine vars rows us (line_row entries))
  unfolding generator_word
  line_written vars rows [] fits = absurd fits
  line_written vars rows (None ∷ os) fits = word_line vars rows (codes "ray") R.zero os
      (begun rows (codes "ray") R.zero refl (λ line column. refl)) fits.0 fits.1
  line_written vars rows (Some n ∷ os) fits = word_line vars rows (codes "point") R.one os
      (begun rows (codes "point") R.one refl (λ line column. refl)) fits.0 fits.1

  -- ---- lists of lines

  pub lines_written : (vars : ℕ) (before : List (List V)) (rows : List (List (Option ℤ))) (line : ℕ) → line ≢ 0 →
      FitFile vars rows → (next : ℕ) × AreLines (lines_of (generator_line kind) rows) [] line next
      (λ us. AreItems (Line vars) before us (map line_row rows))
  lines_written vars before [] line numbered fits = (line, lines_none [] line refl)
  lines_written vars before (row ∷ rows) line numbered fits =
      let x = line_row row in
      let more = lines_written vars (before ++ x ∷ []) rows (line + 1) (λ e. absurd (omega arith)) fits.1 in
      let others = lines_of (generator_line kind) rows in
      let text = generator_line kind row in
      let first = lines_one (others ++ []) line numbered tt (some_token vars before x) (ended vars before x line)
      (line_written vars before row fits.0.fits) in
      let joined : AreLines ((text ++ codes "\n") ++ others) [] line more.0
      (λ us. AreItems (Line vars) before us (map line_row (row ∷ rows))) =
      lines_join (λ us vs h k. (us, vs, refl, h, k)) first more.1 in (
        more.0,
        subst (λ bytes. AreLines bytes [] line more.0
            (λ us. AreItems (Line vars) before us (map line_row (row ∷ rows))))
            (append_assoc text (codes "\n") others) joined,
      )

  -- each vector has a finite element
  abbrev pub AreFinite : List (List V) → Type 0
  AreFinite [] = Unit {0}
  AreFinite (x ∷ xs) = (list_any (is_finite N) x ≡ true) × AreFinite xs

  all_kept : (xs : List (List V)) → AreFinite xs → kept N xs ≡ xs
  all_kept [] h = refl
  all_kept (x ∷ xs) h = rw h.0 (ap (λ (ys : List (List V)). x ∷ ys) (all_kept xs h.1))

  pub generators : (vars : ℕ) (xs : List (List V)) (items : List Piece) → length xs ≤ most_generators → AreFinite xs →
      AreItems (Line vars) [] items xs → AreGenerators kind R N vars is_input_end (items ++ InputEnd ∷ []) xs
  generators vars xs items few finite are =
      let whole = items ++ InputEnd ∷ [] in
      record {
        front = whole;
        back = [];
        value = xs;
        whole = sym (append-nil whole);
        first = record { items = items; end = InputEnd; whole = refl; are = are; ends = refl; count = few };
        second = record { none = refl; is = sym (all_kept xs finite) };
      }
