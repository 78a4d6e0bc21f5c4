-- What the commands `op include`, `op equal`, `op join` and `op meet` mean.
use Rattle.std.specs.Prelude.{◌≡◌, ◌⊎◌, ◌↔◌, ◌+◌, ◌++◌, ℕ, Bool, true, false, List, length, codes}
use Rattle.trop_theory.specs.Semiring.{Semiring}
use Rattle.trop_theory.specs.Numbers.{Numbering}
use Rattle.trop_theory.specs.Inequalities.{Inequality}
use Rattle.trop_theory.specs.Combinations.{IsCombination}
use Rattle.trop_theory.specs.Canonical.{IsOverLimit}
use Rattle.trop_cones.specs.Sets.{InJoin, InMeet}
use Rattle.trop_cones.specs.RowStops.{IsMeetStop}
use Rattle.trop_duality.specs.External.{IsExternal}
use Rattle.trop_text.specs.Pieces.{pieces_of}
use Rattle.trop_spelling.specs.declared.ring_kind.RingKind.{RingKind}
use Rattle.trop_spelling.specs.Printed.{numbers, printed_row}
use Rattle.trop_reading.specs.Outcome.{IsFault}
use Rattle.trop_files.specs.PairFiles.{Two, TwoFile, SpellsTwo, two_file_at}
use Rattle.tplib_reply.specs.Meaning.{Meaning, Cause, at_rows, at_rows_or_polars, always_yes, never}
use Rattle.tplib_reply.specs.declared.stop.Stop.{Stop}
use Rattle.tplib_cones.specs.ConeFiles.{IsConeFile}
use Rattle.tplib_poly.specs.InRing.{RingMeaning, stops_over, answers_over}
use Rattle.tplib_poly.specs.Bounds.{IsBoundsStop}
use Rattle.tplib_poly.specs.Outside.{IsOutsider}
use Rattle.tplib_poly.specs.declared.pair.PairCommand.{PairCommand}
use Rattle.tplib_poly.specs.declared.pair.PairCommand.TheVariants.{Include, Equal, Join, Meet}

-- the text of a row behind some words, as a line
abbrev pub row_line : {V : Type 0} → RingKind → Numbering V → List ℕ → List V → List ℕ
row_line kind N words row = words ++ (printed_row kind (numbers N row) ++ codes "\n")

-- the answer names the first row of the cone that is outside of the other, behind the words
pub record NamesOutsider {V : Type 0} (kind : RingKind) (R : Semiring V) (N : Numbering V) (words : List ℕ)
    (cone other : List V → Type 0) (text : List ℕ) : Type 0 where
  pub row : List V
  pub outsider : IsOutsider R cone other row
  pub line : text ≡ row_line kind N words row

-- whether the first cone lies in the second
abbrev pub IsIncludeAnswer : {V : Type 0} → RingKind → Semiring V → Numbering V → (List V → Type 0) →
    (List V → Type 0) → Bool → List ℕ → Type 0
IsIncludeAnswer {V} kind R N cone other true text = ((x : List V) → cone x → other x) × (text ≡ codes "included\n")
IsIncludeAnswer kind R N cone other false text = NamesOutsider kind R N (codes "not included: row ") cone other text

-- whether the two cones are equal: the first row of the left one that is outside of the right one is named before those
-- of the right one
abbrev pub IsEqualAnswer : {V : Type 0} → RingKind → Semiring V → Numbering V → (List V → Type 0) → (List V → Type 0) →
    Bool → List ℕ → Type 0
IsEqualAnswer {V} kind R N cone other true text = ((x : List V) → cone x ↔ other x) × (text ≡ codes "equal\n")
IsEqualAnswer {V} kind R N cone other false text =
    NamesOutsider kind R N (codes "not equal: left row ") cone other text
    ⊎ (((x : List V) → cone x → other x) × NamesOutsider kind R N (codes "not equal: right row ") other cone text)

-- the external list of the other cone does not stop, and the first k of its inequalities are the least front that
-- leaves too large a part of the cone
pub record IsMeetRowsStop {V : Type 0} (R : Semiring V) (n : ℕ) (cone other : List V → Type 0) (k : ℕ) : Type 0 where
  pub bounds : List (Inequality V)
  pub unbounded : (i j : ℕ) → IsBoundsStop R n other i j → ⊥
  pub external : IsExternal R n other bounds
  pub stop : IsMeetStop R cone n bounds k

-- where the computation on two cones in n coordinates stops
abbrev pub PairStops : PairCommand → {V : Type 0} → Semiring V → ℕ → (List V → Type 0) → (List V → Type 0) → Cause →
    Stop → Type 0
PairStops Include R n cone other = never n
PairStops Equal R n cone other = never n
PairStops Join R n cone other = at_rows (λ m k. (k ≡ 0) × IsOverLimit R (InJoin R cone other)) n
PairStops Meet R n cone other = at_rows_or_polars (λ m k. IsMeetRowsStop R m cone other k)
    (λ m i k. IsBoundsStop R m other i k) n

-- and what it answers
abbrev pub PairAnswers : PairCommand → {V : Type 0} → RingKind → Semiring V → Numbering V → List (List ℕ) →
    (List V → Type 0) → (List V → Type 0) → Bool → List ℕ → Type 0
PairAnswers Include kind R N names cone other = IsIncludeAnswer kind R N cone other
PairAnswers Equal kind R N names cone other = IsEqualAnswer kind R N cone other
PairAnswers Join kind R N names cone other = always_yes (λ ns text. IsConeFile kind R N ns (InJoin R cone other) text)
    names
PairAnswers Meet kind R N names cone other = always_yes (λ ns text. IsConeFile kind R N ns (InMeet cone other) text)
    names

-- of the combinations of the rows of either list
abbrev pub pair_ring : PairCommand → RingMeaning Two
pair_ring command = record {
  stops = λ names V kind R N lists. PairStops command R (length names + 1)
      (IsCombination R (length names + 1) lists.left) (IsCombination R (length names + 1) lists.right);
  answers = λ names V kind R N lists. PairAnswers command kind R N names (IsCombination R (length names + 1) lists.left)
      (IsCombination R (length names + 1) lists.right);
}

abbrev pub pair_meaning : PairCommand → Meaning TwoFile
pair_meaning command = record {
  spells = λ bytes file. SpellsTwo (pieces_of bytes) file;
  faulty = IsFault SpellsTwo two_file_at;
  stops = λ file. stops_over (pair_ring command) file.names file.lists;
  answers = λ file. answers_over (pair_ring command) file.names file.lists;
}
