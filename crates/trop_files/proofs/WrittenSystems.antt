-- Printed lists of inequalities, and the files of them, are read back.
use Rattle.std.proofs.Common.{◌≡◌, ◌≢◌, ◌≤◌, ◌+◌, ℕ, suc, Bool, List, [], ◌∷◌, ◌++◌, length, codes, refl, sym, ap, ◌∙◌, subst, arith, append_assoc, append-nil}
use Rattle.std.specs.Prelude.{All}
use Rattle.trop_theory.specs.Semiring.{Semiring}
use Rattle.trop_theory.specs.Numbers.{Numbering, NumberLaws}
use Rattle.trop_theory.specs.Inequalities.{Inequality, IsIn, inequality_size, system_size}
use Rattle.trop_grammar.specs.Lists.{AreItems, Item}
use Rattle.trop_text.specs.Names.{AreNames}
use Rattle.trop_text.specs.Pieces.{Piece, Token, LineEnd, InputEnd, pieces_of}
use Rattle.trop_text.proofs.WrittenLines.{AreLines, lines_none, lines_one, lines_join, lines_whole}
use Rattle.trop_spelling.specs.declared.ring_kind.RingKind.{RingKind}
use Rattle.trop_spelling.specs.Spelling.{KindLaws}
use Rattle.trop_files.specs.PrintedFiles.{lines_of, printed_ineqs}
use Rattle.trop_spelling.specs.Printed.{printed_inequality}
use Rattle.trop_reading.specs.Words.{is_input_end}
use Rattle.trop_spelling.specs.Inequalities.{IsInequalityRest}
use Rattle.trop_files.specs.Generators.{greatest_number}
use Rattle.trop_files.specs.InequalityFiles.{next_inequality, most_inequalities, AreInequalities, Systems, AreInequalitiesOf, inequality_file, SpellsInequalities}
use Rattle.trop_spelling.specs.Over.{Embedding, IsOneOfThree, InKind}
use Rattle.trop_spelling.proofs.EachKind.{in_kind}
use Rattle.trop_files.proofs.WrittenHeader.{header_of, header_lines}
use Rattle.trop_files.proofs.WrittenParts.{AreParts, file_spelled}
use Rattle.trop_spelling.proofs.WrittenInequalities.{IsOpenInequality, open_has_token, inequality_written}

-- ---- lists

-- P holds of each
abbrev pub Each : {A : Type 0} → (A → Type 0) → List A → Type 0
Each P [] = Unit {0}
Each P (x ∷ xs) = P x × Each P xs

-- ---- what is of so many coordinates and so small

-- an inequality that a file of n coordinates may hold
pub record FitsFile {V : Type 0} (R : Semiring V) (n : ℕ) (p : Inequality V) : Type 0 where
  pub wide : IsIn n p
  pub size : inequality_size R p ≤ greatest_number

pub fits_each : {V : Type 0} (R : Semiring V) (n : ℕ) (system : List (Inequality V)) → All (IsIn n) system →
    system_size R system ≤ greatest_number → Each (FitsFile R n) system
fits_each R n [] wide s = tt
fits_each R n (p ∷ system) wide s = (
  record { wide = wide 0 p (omega arith); size = omega arith },
  fits_each R n system (λ i d h. wide (suc i) d (omega arith)) (omega arith),
)

-- ---- lines of inequalities

module _ {V : Type 0} (kind : RingKind) (reversed : Bool) (R : Semiring V) (N : Numbering V)
    (laws : KindLaws kind R N reversed) (numbers_are : NumberLaws R N) (neutral : (a : V) → R.plus R.zero a ≡ a)
    (names : List (List ℕ)) (are : AreNames names) where
  abbrev Lines : List (Inequality V) → List (Inequality V) → List Piece → Type 0
  Lines before system us = AreItems (Item (next_inequality kind R N names is_input_end)
      (λ xs. IsInequalityRest kind R N greatest_number names)) before us system

  one_line : (before : List (Inequality V)) (p : Inequality V) (line : ℕ) (us : List Piece) →
      IsOpenInequality kind R N greatest_number names p us →
      Item (next_inequality kind R N names is_input_end) (λ xs. IsInequalityRest kind R N greatest_number names) before
      (us ++ LineEnd line ∷ []) p
  one_line before p line us h = record {
    front = Token h.first ∷ [];
    back = h.others ++ LineEnd line ∷ [];
    value = h.start;
    whole = ap (λ ps. ps ++ LineEnd line ∷ []) h.whole;
    first = record { token = Token h.first; whole = refl; is = rw h.begins refl };
    second = h.rest line;
  }

  system_lines : (system before : List (Inequality V)) (line : ℕ) → line ≢ 0 →
      Each (FitsFile R (length names + 1)) system →
      (next : ℕ) × AreLines (lines_of (printed_inequality kind N names) system) [] line next (Lines before system)
  system_lines [] before line numbered fits = (line, lines_none [] line refl)
  system_lines (p ∷ system) before line numbered fits =
      let more = system_lines system (before ++ p ∷ []) (line + 1) (λ e. absurd (omega arith)) fits.1 in
      let others = lines_of (printed_inequality kind N names) system in
      let text = printed_inequality kind N names p in
      let first = lines_one (others ++ []) line numbered refl (open_has_token kind R N greatest_number names p)
      (one_line before p line) (inequality_written kind reversed R N laws numbers_are neutral greatest_number names
      (omega arith) are p fits.0.wide fits.0.size) in
      let joined : AreLines ((text ++ codes "\n") ++ others) [] line more.0 (Lines before (p ∷ system)) =
      lines_join (λ us vs h k. (us, vs, refl, h, k)) first more.1 in (
        more.0,
        subst (λ bytes. AreLines bytes [] line more.0 (Lines before (p ∷ system)))
            (append_assoc text (codes "\n") others) joined,
      )

  listed : (system : List (Inequality V)) (items : List Piece) → length system ≤ most_inequalities →
      Lines [] system items → AreInequalities kind R N names is_input_end (items ++ InputEnd ∷ []) system
  listed system items few h = record { items = items; end = InputEnd; whole = refl; are = h; ends = refl; count = few }

-- ---- files

module _ {V : Type 0} (kind : RingKind) (reversed : Bool) (R : Semiring V) (N : Numbering V)
    (laws : KindLaws kind R N reversed) (numbers_are : NumberLaws R N)
    (neutral : (a : V) → R.plus R.zero a ≡ a) {over : Embedding V} (one : IsOneOfThree V kind R N over) where
  -- a printed file of inequalities is read back
  pub system_read_back : (names : List (List ℕ)) → AreNames names → length names ≤ 63 → (system : List (Inequality V)) →
      All (IsIn (length names + 1)) system → length system ≤ most_inequalities → system_size R system ≤ greatest_number
      → SpellsInequalities (pieces_of (printed_ineqs kind N names system))
      (record { names = names; inequalities = over Systems system })
  system_read_back names are few_names system wide few small =
      let lines = system_lines kind reversed R N laws numbers_are neutral names are system [] 4
      (λ e. absurd (omega arith)) (fits_each R (length names + 1) system wide small) in
      let header = header_lines (codes "ineqs") kind names refl are few_names
      (lines_of (printed_inequality kind N names) system ++ []) in
      let all = lines_join {K = AreParts (codes "ineqs") (header_of kind names 3)
      (Lines kind reversed R N laws numbers_are neutral names are [] system)}
      (λ us vs h k. record { head = us; items = vs; whole = refl; first = h; body = k }) header lines.1 in
      lines_whole (λ ps. SpellsInequalities ps (record { names = names; inequalities = over Systems system }))
      (file_spelled (codes "ineqs") AreInequalitiesOf inequality_file (header_of kind names 3) (over Systems system)
      (Lines kind reversed R N laws numbers_are neutral names are [] system)
      (λ items h. in_kind one (AreInequalitiesOf (header_of kind names 3)) (items ++ InputEnd ∷ []) system
      (listed kind reversed R N laws numbers_are neutral names are system items few h))) all
