-- Files of generators are read back.
use Rattle.std.proofs.Common.{◌≡◌, ◌≤◌, ◌+◌, ℕ, Bool, true, false, List, [], ◌∷◌, ◌++◌, map, length, codes, Option, Some, None, refl, sym, ap, ◌∙◌, subst, arith, append_assoc, append-nil}
use Rattle.std.specs.Prelude.{ℤ, All, is_some, ◌||◌}
use Rattle.std.specs.List.{list_any}
use Rattle.trop_theory.specs.Semiring.{Semiring}
use Rattle.trop_theory.specs.Numbers.{Numbering, NumberLaws}
use Rattle.trop_theory.specs.Vectors.{rows_size, AreWide}
use Rattle.trop_theory.specs.Normal.{IsNormal}
use Rattle.trop_grammar.specs.Lists.{AreItems}
use Rattle.trop_text.specs.Names.{AreNames}
use Rattle.trop_text.specs.Pieces.{Piece, InputEnd, pieces_of}
use Rattle.trop_text.proofs.WrittenLines.{AreLines, lines_join, lines_whole}
use Rattle.trop_spelling.specs.declared.ring_kind.RingKind.{RingKind}
use Rattle.trop_spelling.specs.Spelling.{KindLaws}
use Rattle.trop_spelling.specs.Printed.{numbers}
use Rattle.trop_files.specs.PrintedFiles.{lines_of, generator_line, printed_header, printed_gens}
use Rattle.trop_files.specs.Generators.{greatest_number, most_generators, is_finite, Rows, AreGeneratorsOf, generator_file, SpellsGenerators}
use Rattle.trop_spelling.specs.Over.{Embedding, IsOneOfThree, InKind}
use Rattle.trop_spelling.proofs.EachKind.{in_kind}
use Rattle.trop_spelling.proofs.KindLaws.{named_row, is_one}
use Rattle.trop_files.proofs.WrittenNumbers.{StartsPlain, FitFile, rows_fit}
use Rattle.trop_files.proofs.WrittenGenerators.{line_row, Line, AreFinite, lines_written, generators}
use Rattle.trop_files.proofs.WrittenHeader.{header_of, header_lines}
use Rattle.trop_files.proofs.WrittenParts.{AreParts, file_spelled}

or_same : (b rest other : Bool) → (rest ≡ true → other ≡ true) → (b || rest) ≡ true → (b || other) ≡ true
or_same true rest other to h = refl
or_same false rest other to h = to h

-- ---- what a line gives is the vector that was printed

module _ {V : Type 0} (kind : RingKind) (reversed : Bool) (R : Semiring V) (N : Numbering V) (laws : NumberLaws R N)
    (known : KindLaws kind R N reversed) where
  -- a vector whose first entry is the zero or the one is that of its line
  row_again : (x : List V) → StartsPlain (numbers N x) → line_row kind R N (numbers N x) ≡ x
  row_again [] h = refl
  row_again (a ∷ x) h = by (N.to a) refl h
    where
      by : (o : Option ℤ) → N.to a ≡ o → StartsPlain (o ∷ numbers N x) → line_row kind R N (o ∷ numbers N x) ≡ a ∷ x
      by None e h = λ i. sym ((laws.none a).0 e) i ∷ named_row kind reversed R N laws known x i
      by (Some n) e h = λ i. is_one kind reversed R N laws known a n e h i ∷ named_row kind reversed R N laws known x i

  rows_again : (vars : ℕ) (rows : List (List V)) → FitFile vars (map (numbers N) rows) →
      map (line_row kind R N) (map (numbers N) rows) ≡ rows
  rows_again vars [] h = refl
  rows_again vars (x ∷ rows) h = λ i. row_again x h.0.plain i ∷ rows_again vars rows h.1 i

  finite_again : (x : List V) → list_any is_some (numbers N x) ≡ true → list_any (is_finite N) x ≡ true
  finite_again [] h = h
  finite_again (a ∷ x) h = or_same (is_some (N.to a)) (list_any is_some (numbers N x)) (list_any (is_finite N) x)
      (finite_again x) h

  rows_finite : (vars : ℕ) (rows : List (List V)) → FitFile vars (map (numbers N) rows) → AreFinite kind R N rows
  rows_finite vars [] h = tt
  rows_finite vars (x ∷ rows) h = (finite_again x h.0.finite, rows_finite vars rows h.1)

-- ---- files

lines_map : {A B : Type 0} (line : B → List ℕ) (f : A → B) (xs : List A) →
    lines_of (λ x. line (f x)) xs ≡ lines_of line (map f xs)
lines_map line f [] = refl
lines_map line f (x ∷ xs) = ap (λ ts. line (f x) ++ (codes "\n" ++ ts)) (lines_map line f xs)

module _ {V : Type 0} (kind : RingKind) (reversed : Bool) (R : Semiring V) (N : Numbering V) (laws : NumberLaws R N)
    (known : KindLaws kind R N reversed) {over : Embedding V} (one : IsOneOfThree V kind R N over) where
  module _ (names : List (List ℕ)) (rows : List (List V)) (are : AreNames names) (few_names : length names ≤ 63)
      (few : length rows ≤ most_generators) (fits : FitFile (length names) (map (numbers N) rows)) where
    abbrev Items : List Piece → Type 0
    Items us = AreItems (Line kind R N (length names)) [] us (map (line_row kind R N) (map (numbers N) rows))

    body : (items : List Piece) → Items items → InKind (AreGeneratorsOf (header_of kind names 3)) kind
        (items ++ InputEnd ∷ []) (over Rows rows)
    body items h =
        in_kind one (AreGeneratorsOf (header_of kind names 3)) (items ++ InputEnd ∷ []) rows
        (generators kind R N (length names) rows items few
        (rows_finite kind reversed R N laws known (length names) rows fits)
        (subst (λ ys. AreItems (Line kind R N (length names)) [] items ys)
        (rows_again kind reversed R N laws known (length names) rows fits) h))

    by_lines : SpellsGenerators (pieces_of (printed_header (codes "gens") kind names ++ lines_of (generator_line kind)
        (map (numbers N) rows))) (record { names = names; vars_line = 3; rows = over Rows rows })
    by_lines =
        let entries = map (numbers N) rows in
        let lines = lines_written kind R N (length names) [] entries 4 (λ e. absurd (omega arith)) fits in
        let whole : AreLines (printed_header (codes "gens") kind names ++ lines_of (generator_line kind) entries) []
        1 lines.0 (AreParts (codes "gens") (header_of kind names 3) Items) =
        lines_join (λ us vs h k. record { head = us; items = vs; whole = refl; first = h; body = k })
        (header_lines (codes "gens") kind names refl are few_names (lines_of (generator_line kind) entries ++ []))
        lines.1 in
        lines_whole (λ us. SpellsGenerators us (record { names = names; vars_line = 3; rows = over Rows rows }))
        (file_spelled (codes "gens") AreGeneratorsOf generator_file (header_of kind names 3)
        (over Rows rows) Items body)
        whole

  -- a printed file of generators in normal form is read back
  pub gens_read_back : (names : List (List ℕ)) (rows : List (List V)) → AreNames names → length names ≤ 63 →
      All (IsNormal R) rows → AreWide (length names + 1) rows → length rows ≤ most_generators →
      rows_size R rows ≤ greatest_number
      → SpellsGenerators (pieces_of (printed_gens kind N names rows))
      (record { names = names; vars_line = 3; rows = over Rows rows })
  gens_read_back names rows are few_names normal wide few small =
      subst (λ (ts : List ℕ). SpellsGenerators (pieces_of (printed_header (codes "gens") kind names ++ ts))
      (record { names = names; vars_line = 3; rows = over Rows rows }))
      (sym (lines_map (generator_line kind) (numbers N) rows))
      (by_lines names rows are few_names few (rows_fit kind reversed R N laws known
      (length names) rows normal wide small))
