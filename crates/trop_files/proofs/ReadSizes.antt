-- What a file says is what a file may hold, so its rows can be reduced, its inequalities converted, and its vector
-- looked at.
-- Index: generators_held, inequalities_held, at_held, two_held, header_few, gens_held, ineqs_held, pair_held,
-- at_file_held, file_small, inequalities_convertible, at_visible.
use Rattle.std.proofs.Common.{◌≡◌, ◌≤◌, ◌+◌, ◌^◌, ℕ, Bool, true, false, List, [], ◌∷◌, ◌++◌, length, Some, Result, Ok, Err, sym, subst, ap, ◌∙◌, arith}
use Rattle.std.proofs.lemmas.List.Elements.{All-nil, All-cons, All-filter}
use Rattle.std.specs.Prelude.{All, if◌then◌else◌, codes, filter, cond}
use Rattle.std.specs.List.{list_any}
use Rattle.trop_theory.specs.Semiring.{Semiring, SemiringLaws}
use Rattle.trop_theory.specs.Numbers.{Numbering}
use Rattle.trop_theory.specs.Vectors.{AreWide, row_size, rows_size}
use Rattle.trop_theory.specs.Inequalities.{Inequality, IsIn, system_size}
use Rattle.trop_grammar.specs.Lists.{next_or_end, Item, AreItems}
use Rattle.trop_text.specs.Pieces.{Piece}
use Rattle.trop_text.specs.declared.fault.FaultKind.{FaultKind}
use Rattle.trop_text.specs.declared.fault.FaultKind.TheVariants.{Syntax}
use Rattle.trop_reading.specs.Words.{says, is_input_end}
use Rattle.trop_spelling.specs.declared.ring_kind.RingKind.{RingKind}
use Rattle.trop_spelling.specs.Spelling.{KindLaws}
use Rattle.trop_spelling.specs.Over.{Over, Holds}
use Rattle.trop_spelling.specs.Inequalities.{side_start, IsInequalityRest, IsInequality}
use Rattle.trop_spelling.proofs.EachKind.{holds_in_kind, Holds-weaker}
use Rattle.trop_spelling.proofs.Lengths.{length-row, IsIn-inequality}
use Rattle.trop_spelling.proofs.ReadSizes.{row_size-read, inequality_size-read}
use Rattle.trop_files.specs.declared.list_end.ListEnd.TheVariants.{And, Input, At as AtWord}
use Rattle.trop_files.specs.ListEnds.{ends}
use Rattle.trop_files.specs.Generators.{Rows, generator_word, next_generator, IsGenerator, AreGenerators, greatest_number, GeneratorFile, AreGeneratorsOf, SpellsGenerators, is_finite}
use Rattle.trop_files.specs.InequalityFiles.{next_inequality, AreInequalities, InequalityFile, AreInequalitiesOf, SpellsInequalities}
use Rattle.trop_files.specs.AtFiles.{At, AtText, IsAt, IsAtOf, SpellsAt}
use Rattle.trop_files.specs.Header.{Header, IsHeader, most_names}
use Rattle.trop_files.specs.PairFiles.{Two, TwoFile, AreTwo, AreTwoOf, SpellsTwo}
use Rattle.trop_files.specs.FileLimits.{AreFileRows, AreFileInequalities, AreFileTwo, IsFileAt, HoldsRows, HoldsInequalities, HoldsTwo, HoldsAt}
use Rattle.trop_files.specs.Sizes.{AreSmall, IsConvertible, IsVisible}

begun_at : {C W : Type 0} (ended : Bool) (word : Result C W) (x : C) → next_or_end ended word ≡ Ok (Some x) →
    word ≡ Ok x
begun_at true word x e = cc
begun_at false (Ok y) x e = let same : y ≡ x = cc in ap Ok same
begun_at false (Err what) x e = cc

module _ {V : Type 0} {R : Semiring V} (laws : SemiringLaws R) (kind : RingKind) (N : Numbering V) (reversed : Bool)
    (known : KindLaws kind R N reversed) where
  -- ---- generators

  -- the entry in front is the one or the zero
  word_small : (point ray : Bool) (x : V) → (let r : Result V FaultKind =
      if point then Ok R.one else (if ray then Ok R.zero else Err Syntax) in r) ≡ Ok x → R.size x ≤ greatest_number
  word_small true ray x e = let same : R.one ≡ x = cc in
      subst (λ y. R.size y ≤ greatest_number) same (subst (λ s. s ≤ greatest_number) (sym laws.size_one) (omega arith))
  word_small false true x e = let same : R.zero ≡ x = cc in
      subst (λ y. R.size y ≤ greatest_number) same (subst (λ s. s ≤ greatest_number) (sym laws.size_zero) (omega arith))
  word_small false false x e = cc

  first_small : (p : Piece) (x : V) → generator_word R p ≡ Ok x → R.size x ≤ greatest_number
  unfolding generator_word
  first_small p x e = word_small (says (codes "point") p) (says (codes "ray") p) x e

  generator_small : (vars : ℕ) (first : V) (us : List Piece) (row : List V) → R.size first ≤ greatest_number →
      IsGenerator kind R N vars first us row → row_size R row ≤ greatest_number
  generator_small vars first us row small g =
      let entries = row_size-read laws kind N reversed greatest_number vars g.front g.value known g.first in
      subst (λ x. row_size R x ≤ greatest_number) (sym g.second.second.is)
      (let all : row_size R (first ∷ g.value) ≤ greatest_number = omega arith in all)

  generator_lines_small : (vars : ℕ) (ends : Piece → Bool) (before : List (List V)) (us : List Piece)
      (rows : List (List V)) → AreItems (Item (next_generator R ends) (λ rows. IsGenerator kind R N vars)) before us
      rows → rows_size R rows ≤ greatest_number
  generator_lines_small vars ends before us [] are = omega arith
  generator_lines_small vars ends before us (row ∷ rows) (vs, ws, whole, line, more) =
      let token = line.first.token in
      let word = first_small token line.value (begun_at (ends token) (generator_word R token) line.value line.first.is)
      in
      let first = generator_small vars line.value line.back row word line.second in
      let others = generator_lines_small vars ends (before ++ row ∷ []) ws rows more in
      omega arith

  rows_size-filter : (keeps : List V → Bool) (rows : List (List V)) → rows_size R rows ≤ greatest_number →
      rows_size R (filter keeps rows) ≤ greatest_number
  rows_size-filter keeps [] s = s
  rows_size-filter keeps (x ∷ rows) s = by (keeps x) (rows_size-filter keeps rows (omega arith))
    where
      by : (b : Bool) → rows_size R (filter keeps rows) ≤ greatest_number →
          rows_size R (cond b (x ∷ filter keeps rows) (filter keeps rows)) ≤ greatest_number
      by true more = omega arith
      by false more = more

  lines_wide : (vars : ℕ) (ends : Piece → Bool) (before : List (List V)) (us : List Piece) (rows : List (List V)) →
      AreItems (Item (next_generator R ends) (λ rows. IsGenerator kind R N vars)) before us rows →
      AreWide (vars + 1) rows
  lines_wide vars ends before us [] are = All-nil (λ row. length row ≡ vars + 1)
  lines_wide vars ends before us (row ∷ rows) (vs, ws, whole, line, more) =
      let g = line.second in
      let entries = length-row kind R N greatest_number vars g.front g.value g.first in
      All-cons (λ row. length row ≡ vars + 1) row rows
      (ap length g.second.second.is ∙ (let all : length (line.value ∷ g.value) ≡ vars + 1 = omega arith in all))
      (lines_wide vars ends (before ++ row ∷ []) ws rows more)

  length-filter-le : (keeps : List V → Bool) (rows : List (List V)) → length (filter keeps rows) ≤ length rows
  length-filter-le keeps [] = omega arith
  length-filter-le keeps (x ∷ rows) = by (keeps x) (length-filter-le keeps rows)
    where
      by : (b : Bool) → length (filter keeps rows) ≤ length rows →
          length (cond b (x ∷ filter keeps rows) (filter keeps rows)) ≤ length (x ∷ rows)
      by true more = omega arith
      by false more = omega arith

  -- a list of generators that is read
  pub generators_held : (vars : ℕ) (ends : Piece → Bool) (us : List Piece) (rows : List (List V)) →
      AreGenerators kind R N vars ends us rows → AreFileRows R (vars + 1) rows
  generators_held vars ends us rows are =
      let lines = are.first in
      let keeps : List V → Bool = λ row. list_any (is_finite N) row in
      let kept_are : AreFileRows R (vars + 1) (filter keeps are.value) = record {
        few = omega (arith, lines.count, length-filter-le keeps are.value);
        wide = All-filter keeps (λ row. length row ≡ vars + 1) are.value
            (lines_wide vars ends [] lines.items are.value lines.are);
        small = rows_size-filter keeps are.value (generator_lines_small vars ends [] lines.items are.value lines.are);
      } in
      subst (AreFileRows R (vars + 1)) (sym are.second.is) kept_are

  -- ---- inequalities

  -- a line of a list is an inequality
  line_is : (names : List (List ℕ)) (ends : Piece → Bool) (before : List (Inequality V)) (us : List Piece)
      (p : Inequality V) → Item (next_inequality kind R N names ends)
      (λ before. IsInequalityRest kind R N greatest_number names) before us p →
      IsInequality kind R N greatest_number names us p
  line_is names ends before us p line =
      let token = line.first.token in
      let started = begun_at (ends token) (side_start kind R N greatest_number names token) line.value line.first.is in
      record {
        front = line.front;
        back = line.back;
        value = line.value;
        whole = line.whole;
        first =
            record { token = token; whole = line.first.whole; is = started };
        second = line.second;
      }

  inequalities_small : (names : List (List ℕ)) (ends : Piece → Bool) (before : List (Inequality V)) (us : List Piece)
      (system : List (Inequality V))
      → AreItems (Item (next_inequality kind R N names ends)
      (λ before. IsInequalityRest kind R N greatest_number names)) before us system →
      system_size R system ≤ greatest_number
  inequalities_small names ends before us [] are = omega arith
  inequalities_small names ends before us (p ∷ system) (vs, ws, whole, line, more) =
      let first = inequality_size-read laws kind N reversed greatest_number names vs p known
      (line_is names ends before vs p line) in
      let others = inequalities_small names ends (before ++ p ∷ []) ws system more in
      omega arith

  inequalities_wide : (names : List (List ℕ)) (ends : Piece → Bool) (before : List (Inequality V)) (us : List Piece)
      (system : List (Inequality V))
      → AreItems (Item (next_inequality kind R N names ends)
      (λ before. IsInequalityRest kind R N greatest_number names)) before us system →
      All (IsIn (length names + 1)) system
  inequalities_wide names ends before us [] are = All-nil (IsIn (length names + 1))
  inequalities_wide names ends before us (p ∷ system) (vs, ws, whole, line, more) =
      All-cons (IsIn (length names + 1)) p system (IsIn-inequality kind R N greatest_number names vs p
      (line_is names ends before vs p line)) (inequalities_wide names ends (before ++ p ∷ []) ws system more)

  -- a list of inequalities that is read
  pub inequalities_held : (names : List (List ℕ)) (ends : Piece → Bool) (us : List Piece) (system : List (Inequality V))
      → AreInequalities kind R N names ends us system → AreFileInequalities R (length names + 1) system
  inequalities_held names ends us system are = record {
    few = are.count;
    wide = inequalities_wide names ends [] are.items system are.are;
    small =
        inequalities_small names ends [] are.items system are.are;
  }

  -- ---- a vector with inequalities

  pub at_held : (names : List (List ℕ)) (us : List Piece) (p : At V) → IsAt kind R N names us p →
      IsFileAt R (length names + 1) p
  at_held names us p e =
      let row = e.second in
      let here : IsFileAt R (length names + 1) (record { inequalities = e.value; row = row.value }) = record {
        inequalities = inequalities_held names (ends AtWord) e.front e.value e.first;
        wide = length-row kind R N greatest_number (length names + 1) row.front row.value row.first;
        small = row_size-read laws kind N reversed greatest_number
            (length names + 1) row.front row.value known row.first;
      } in
      subst (IsFileAt R (length names + 1)) (sym row.second.second.second.is) here

  pub two_held : (vars : ℕ) (us : List Piece) (lists : Two V) → AreTwo kind R N vars us lists →
      AreFileTwo R (vars + 1) lists
  two_held vars us lists e =
      let right = e.second.second in
      let here : AreFileTwo R (vars + 1) (record { left = e.value; right = right.value }) = record {
        left = generators_held vars (ends And) e.front e.value e.first;
        right = generators_held vars (ends Input) right.front right.value right.first;
      } in
      subst (AreFileTwo R (vars + 1)) (sym right.second.is) here

-- ---- files

-- a header has no more names than a file may have
pub header_few : (kind : List ℕ) (us : List Piece) (h : Header) → IsHeader kind us h → length h.names ≤ most_names
header_few kind us h is =
    let names = is.second.second.second in
    subst (λ g. length g.names ≤ most_names) (sym names.second.is) names.first.count

-- the vectors of a file of generators
pub gens_held : (us : List Piece) (file : GeneratorFile) → SpellsGenerators us file → HoldsRows file.names file.rows
gens_held us file s =
    subst (λ f. HoldsRows f.names f.rows) (sym s.second.second.is)
    (record {
      names_few = header_few (codes "gens") s.front s.value s.first;
      rows_are =
          holds_in_kind (AreGeneratorsOf s.value) (λ V kind R N xs. AreFileRows R (length s.value.names + 1) xs)
          (λ V kind R N reversed laws known us rows g. generators_held laws kind N reversed known
          (length s.value.names) is_input_end us rows g) s.value.ring s.second.front s.second.value s.second.first;
    })

-- the inequalities of a file
pub ineqs_held : (us : List Piece) (file : InequalityFile) → SpellsInequalities us file →
    HoldsInequalities file.names file.inequalities
ineqs_held us file s =
    subst (λ f. HoldsInequalities f.names f.inequalities) (sym s.second.second.is)
    (record {
      names_few = header_few (codes "ineqs") s.front s.value s.first;
      system_is =
          holds_in_kind (AreInequalitiesOf s.value)
          (λ V kind R N xs. AreFileInequalities R (length s.value.names + 1) xs)
          (λ V kind R N reversed laws known us system g. inequalities_held laws kind N reversed known s.value.names
          is_input_end us system g) s.value.ring s.second.front s.second.value s.second.first;
    })

-- both lists of a pair
pub pair_held : (us : List Piece) (file : TwoFile) → SpellsTwo us file → HoldsTwo file.names file.lists
pair_held us file s =
    subst (λ f. HoldsTwo f.names f.lists) (sym s.second.second.is)
    (record {
      names_few = header_few (codes "pair") s.front s.value s.first;
      lists_are =
          holds_in_kind (AreTwoOf s.value) (λ V kind R N x. AreFileTwo R (length s.value.names + 1) x)
          (λ V kind R N reversed laws known us lists g. two_held laws kind N reversed known
          (length s.value.names) us lists g) s.value.ring s.second.front s.second.value s.second.first;
    })

-- the inequalities and the vector of a file
pub at_file_held : (us : List Piece) (file : AtText) → SpellsAt us file → HoldsAt file.names file.body
at_file_held us file s =
    subst (λ f. HoldsAt f.names f.body) (sym s.second.second.is)
    (record {
      names_few = header_few (codes "at") s.front s.value s.first;
      body_is =
          holds_in_kind (IsAtOf s.value) (λ V kind R N x. IsFileAt R (length s.value.names + 1) x)
          (λ V kind R N reversed laws known us p g. at_held laws kind N reversed known s.value.names us p g)
          s.value.ring
          s.second.front s.second.value s.second.first;
    })

-- ---- sizes

small_rows : (names : List (List ℕ)) (rows : Over Rows) →
    Holds (λ V kind R N xs. AreFileRows R (length names + 1) xs) rows → AreSmall rows
small_rows names rows h = Holds-weaker (λ V kind R N xs. AreFileRows R (length names + 1) xs)
    (λ V kind R N xs. rows_size R xs ≤ 2 ^ 59) (λ V kind R N xs k. let small = k.small in omega arith) rows h

-- the rows of a file can be reduced
pub file_small : (us : List Piece) (file : GeneratorFile) → SpellsGenerators us file → AreSmall file.rows
file_small us file s = small_rows file.names file.rows (gens_held us file s).rows_are

-- the inequalities of a file can be converted
pub inequalities_convertible : (us : List Piece) (file : InequalityFile) → SpellsInequalities us file →
    IsConvertible file.inequalities
inequalities_convertible us file s = Holds-weaker (λ V kind R N xs. AreFileInequalities R (length file.names + 1) xs)
    (λ V kind R N xs. system_size R xs ≤ 2 ^ 49) (λ V kind R N xs k. let small = k.small in omega arith)
    file.inequalities (ineqs_held us file s).system_is

-- the hypergraph at a file's vector can be looked at
pub at_visible : (us : List Piece) (file : AtText) → SpellsAt us file → IsVisible file.body
at_visible us file s = Holds-weaker (λ V kind R N x. IsFileAt R (length file.names + 1) x)
    (λ V kind R N x. (row_size R x.row ≤ 2 ^ 60) × (system_size R x.inequalities ≤ 2 ^ 49))
    (λ V kind R N x k. (let small = k.small in omega arith, let small = k.inequalities.small in omega arith)) file.body
    (at_file_held us file s).body_is
