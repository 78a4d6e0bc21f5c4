-- The bytes of what is printed. A list of generators that a file may hold has a text that an input may have.
-- Index: AreShort, number_short, element_short, comma_short, lines_short, AreShortNames, names_short, header_short,
-- gens_short.
use Rattle.std.proofs.Common.{◌≡◌, ◌≤◌, ◌+◌, ◌*◌, ℕ, suc, Bool, true, false, ◌&&◌, not, List, [], ◌∷◌, ◌++◌, map, length, Option, Some, None, codes, decimal, nat_le, refl, arith, length-append}
use Rattle.std.specs.Prelude.{ℤ, pos, negsuc, nat_abs, All}
use Rattle.std.specs.Fmt.{signed_decimal}
use Rattle.std.proofs.Math.Nat.{mul-suc}
use Rattle.std.proofs.lemmas.Fmt.{length-decimal-le}
use Rattle.std.proofs.lemmas.List.{length-map}
use Rattle.std.proofs.lemmas.List.Elements.{All-nil, All-cons, All-head, All-tail}
use Rattle.trop_theory.specs.Semiring.{Semiring}
use Rattle.trop_theory.specs.Numbers.{Numbering, NumberLaws}
use Rattle.trop_theory.specs.Vectors.{AreWide, row_size, rows_size}
use Rattle.trop_scalar.specs.MaxPlus.{magnitude}
use Rattle.trop_text.specs.Name.{is_name, is_word, is_reserved, longest_name}
use Rattle.trop_text.specs.Names.{AreNames}
use Rattle.trop_spelling.specs.declared.ring_kind.RingKind.{RingKind}
use Rattle.trop_spelling.specs.declared.ring_kind.RingKind.TheVariants.{Max as MaxKind, Min as MinKind, Bool as BoolKind}
use Rattle.trop_spelling.specs.Spelling.{KindLaws, ring_word, element_text}
use Rattle.trop_spelling.specs.Printed.{after_commas, comma_list, numbers, printed_row}
use Rattle.trop_spelling.proofs.WrittenElements.{AreWithin}
use Rattle.trop_spelling.proofs.KindLaws.{within}
use Rattle.trop_files.specs.Generators.{greatest_number, most_generators}
use Rattle.trop_files.specs.PrintedFiles.{after_spaces, printed_header, lines_of, generator_line, printed_gens}
use Rattle.tplib_cmd.specs.Streams.{longest_input}

-- ---- numbers and elements

pub number_short : (n : ℕ) → n ≤ greatest_number → length (decimal n) ≤ 13
number_short n small = length-decimal-le 13 n (omega arith) (omega arith) (omega arith)

signed_short : (n : ℤ) → nat_abs n ≤ greatest_number → length (signed_decimal n) ≤ 14
signed_short (pos n) small = omega (arith, number_short n small)
signed_short (negsuc n) small = omega (arith, number_short (suc n) small)

pub element_short : (kind : RingKind) (o : Option ℤ) → magnitude o ≤ greatest_number →
    length (element_text kind o) ≤ 14
element_short MaxKind None small = omega arith
element_short MaxKind (Some n) small = signed_short n small
element_short MinKind None small = omega arith
element_short MinKind (Some n) small = signed_short n small
element_short BoolKind None small = omega arith
element_short BoolKind (Some n) small = omega arith

-- ---- lists of texts

-- each has at most m bytes
abbrev pub AreShort : ℕ → List (List ℕ) → Type 0
AreShort m [] = Unit {0}
AreShort m (t ∷ ts) = (length t ≤ m) × AreShort m ts

after_short : (m : ℕ) (ts : List (List ℕ)) → AreShort m ts → length (after_commas ts) ≤ (m + 2) * length ts
after_short m [] h = omega arith
after_short m (t ∷ ts) h = omega (
  arith,
  h.0,
  after_short m ts h.1,
  length-append t (after_commas ts),
  mul-suc (m + 2) (length ts),
)

pub comma_short : (m : ℕ) (ts : List (List ℕ)) → AreShort m ts → length (comma_list ts) ≤ (m + 2) * length ts
comma_short m [] h = omega arith
comma_short m (t ∷ ts) h = omega (
  arith,
  h.0,
  after_short m ts h.1,
  length-append t (after_commas ts),
  mul-suc (m + 2) (length ts),
)

pub lines_short : {A : Type 0} (line : A → List ℕ) (m : ℕ) (xs : List A) → All (λ x. length (line x) ≤ m) xs →
    length (lines_of line xs) ≤ (m + 1) * length xs
lines_short line m [] h = omega arith
lines_short line m (x ∷ xs) h = omega (
  arith,
  All-head (λ x. length (line x) ≤ m) x xs h,
  lines_short line m xs (All-tail (λ x. length (line x) ≤ m) x xs h),
  length-append (line x) (codes "\n" ++ lines_of line xs),
  mul-suc (m + 1) (length xs),
)

-- ---- headers

abbrev pub AreShortNames : List (List ℕ) → Type 0
AreShortNames names = All (λ name. length name ≤ longest_name) names

both : (a b : Bool) → (a && b) ≡ true → (a ≡ true) × (b ≡ true)
both true true h = (refl, refl)
both true false h = absurd cc
both false b h = absurd cc

at_most : (n m : ℕ) → nat_le n m ≡ true → n ≤ m
at_most n m h = grind arith

name_short : (name : List ℕ) → is_name name ≡ true → length name ≤ longest_name
name_short name h = at_most (length name) longest_name
    (both (is_word name) (nat_le (length name) longest_name)
    (both (is_word name && nat_le (length name) longest_name) (not (is_reserved name)) h).0).1

pub names_short : (names : List (List ℕ)) → AreNames names → AreShortNames names
names_short names are k d l = name_short _ (are.each k d l)

spaces_short : (names : List (List ℕ)) → AreShortNames names → length (after_spaces names) ≤ 33 * length names
spaces_short [] h = omega arith
spaces_short (name ∷ names) h = omega (
  arith,
  All-head (λ name. length name ≤ longest_name) name names h,
  spaces_short names (All-tail (λ name. length name ≤ longest_name) name names h),
  length-append name (after_spaces names),
)

word_short : (kind : RingKind) → length (ring_word kind) ≤ 4
word_short MaxKind = omega arith
word_short MinKind = omega arith
word_short BoolKind = omega arith

pub header_short : (file_kind : List ℕ) (kind : RingKind) (names : List (List ℕ)) → length file_kind ≤ 5 →
    AreShortNames names → length names ≤ 63 → length (printed_header file_kind kind names) ≤ 2109
header_short file_kind kind names short are few =
    let spaced = after_spaces names ++ codes "\n" in
    let third = codes "\nvars" ++ spaced in
    let second = codes "\nsemiring " ++ (ring_word kind ++ third) in
    omega (
      arith,
      length-append file_kind second,
      length-append (ring_word kind) third,
      length-append (after_spaces names) (codes "\n"),
      word_short kind,
      spaces_short names are,
    )

-- ---- files of generators

module _ {V : Type 0} {R : Semiring V} {N : Numbering V} (numbers_are : NumberLaws R N) (kind : RingKind)
    (reversed : Bool) (known : KindLaws kind R N reversed) where
  elements_short : (os : List (Option ℤ)) → AreWithin greatest_number os → AreShort 14 (map (element_text kind) os)
  elements_short [] small = tt
  elements_short (o ∷ os) small = (element_short kind o small.0, elements_short os small.1)

  row_short : (os : List (Option ℤ)) → AreWithin greatest_number os → length os ≤ 63 →
      length (printed_row kind os) ≤ 1010
  row_short os small few =
      let texts = map (element_text kind) os in
      omega (
        arith,
        comma_short 14 texts (elements_short os small),
        length-map os (element_text kind),
        length-append (comma_list texts) (codes "]"),
      )

  line_at : (o : Option ℤ) (os : List (Option ℤ)) → AreWithin greatest_number os → length os ≤ 63 →
      length (generator_line kind (o ∷ os)) ≤ 1016
  line_at None os small few = omega (arith, row_short os small few)
  line_at (Some n) os small few = omega (arith, row_short os small few)

  line_short : (x : List V) → length x ≤ 64 → row_size R x ≤ greatest_number →
      length (generator_line kind (numbers N x)) ≤ 1016
  line_short [] wide small = omega arith
  line_short (a ∷ x) wide small = line_at (N.to a) (numbers N x)
      (within kind reversed R N numbers_are known greatest_number x (omega arith)) (omega (arith, length-map x N.to))

  all_short : (n : ℕ) (rows : List (List V)) → n ≤ 64 → AreWide n rows → rows_size R rows ≤ greatest_number →
      All (λ x. length (generator_line kind (numbers N x)) ≤ 1016) rows
  all_short n [] most wide small = All-nil (λ x. length (generator_line kind (numbers N x)) ≤ 1016)
  all_short n (x ∷ rows) most wide small =
      All-cons (λ x. length (generator_line kind (numbers N x)) ≤ 1016) x rows
      (line_short x (omega (arith, All-head (λ row. length row ≡ n) x rows wide)) (omega arith))
      (all_short n rows most (All-tail (λ row. length row ≡ n) x rows wide) (omega arith))

  pub gens_short : (names : List (List ℕ)) → AreNames names → length names ≤ 63 → (rows : List (List V)) →
      AreWide (length names + 1) rows → length rows ≤ most_generators → rows_size R rows ≤ greatest_number →
      length (printed_gens kind N names rows) ≤ longest_input
  gens_short names are few_names rows wide few small =
      let header = printed_header (codes "gens") kind names in
      let line = λ (x : List V). generator_line kind (numbers N x) in
      omega (
        arith,
        length-append header (lines_of line rows),
        header_short (codes "gens") kind names (omega arith) (names_short names are) few_names,
        lines_short line 1016 rows (all_short (length names + 1) rows (omega arith) wide small),
      )
