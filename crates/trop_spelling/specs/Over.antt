-- What stands over one of the three semirings.
use Rattle.std.specs.Prelude.{◌≡◌, ℤ, Bool, List, Option}
use Rattle.trop_theory.specs.Semiring.{Semiring}
use Rattle.trop_theory.specs.Numbers.{Numbering}
use Rattle.trop_scalar.specs.MaxPlus.{max_ring, max_numbering}
use Rattle.trop_scalar.specs.MinPlus.{min_ring}
use Rattle.trop_scalar.specs.Truth.{truth_ring, truth_numbering}
use Rattle.trop_grammar.specs.Reading.{Reading, ◌>>=◌, gives}
use Rattle.trop_grammar.specs.Grammar.{Empty, Then}
use Rattle.trop_text.specs.Pieces.{Piece}
use Rattle.trop_text.specs.declared.fault.FaultKind.{FaultKind}
use Rattle.trop_spelling.specs.declared.ring_kind.RingKind.{RingKind}
use Rattle.trop_spelling.specs.declared.ring_kind.RingKind.TheVariants.{Max as MaxKind, Min as MinKind, Bool as BoolKind}

-- F over max, over min or over bool, as F = List is a list of elements of one of the three
pub data Over (F : Type 0 → Type 0) : Type 0 where
  OverMax : F (Option ℤ) → Over F
  OverMin : F (Option ℤ) → Over F
  OverBool : F Bool → Over F

-- how what stands over elements of V is seen as standing over one of the three
abbrev pub Embedding : Type 0 → Type 1
Embedding V = (F : Type 0 → Type 0) → F V → Over F

-- ---- one of the three

-- something said of any semiring of a kind, with its numbering
abbrev pub Saying : Type 1
Saying = (V : Type 0) → RingKind → Semiring V → Numbering V → Embedding V → Type 0

abbrev max_embedding : Embedding (Option ℤ)
max_embedding F x = OverMax x

abbrev min_embedding : Embedding (Option ℤ)
min_embedding F x = OverMin x

abbrev bool_embedding : Embedding Bool
bool_embedding F x = OverBool x

-- What is true of each of the three, with its numbering, is true here.
abbrev pub IsOneOfThree : (V : Type 0) → RingKind → Semiring V → Numbering V → Embedding V → Type 1
IsOneOfThree V kind R N over =
    (P : Saying) → P (Option ℤ) MaxKind max_ring max_numbering max_embedding →
    P (Option ℤ) MinKind min_ring max_numbering min_embedding →
    P Bool BoolKind truth_ring truth_numbering bool_embedding → P V kind R N over

-- one of the three
pub record Three (V : Type 0) : Type 1 where
  pub kind : RingKind
  pub ring : Semiring V
  pub numbering : Numbering V
  pub over : Embedding V
  pub each : IsOneOfThree V kind ring numbering over

abbrev pub max_three : Three (Option ℤ)
max_three = record {
  kind = MaxKind;
  ring = max_ring;
  numbering = max_numbering;
  over = max_embedding;
  each =
      λ P in_max in_min in_bool. in_max;
}

abbrev pub min_three : Three (Option ℤ)
min_three = record {
  kind = MinKind;
  ring = min_ring;
  numbering = max_numbering;
  over = min_embedding;
  each =
      λ P in_max in_min in_bool. in_min;
}

abbrev pub bool_three : Three Bool
bool_three = record {
  kind = BoolKind;
  ring = truth_ring;
  numbering = truth_numbering;
  over = bool_embedding;
  each =
      λ P in_max in_min in_bool. in_bool;
}

-- this kind, these operations and this numbering are those of one of the three
pub record IsThree {V : Type 0} (three : Three V) (kind : RingKind) (R : Semiring V) (N : Numbering V) : Type 0 where
  pub kind_is : three.kind ≡ kind
  pub ring_is : three.ring ≡ R
  pub numbering_is : three.numbering ≡ N

-- ---- what is said once and holds over each

-- what P says of the value, in the semiring over which it stands
abbrev pub Holds : {F : Type 0 → Type 0} → ((V : Type 0) → RingKind → Semiring V → Numbering V → F V → Type 0) →
    Over F → Type 0
Holds P (OverMax x) = P (Option ℤ) MaxKind max_ring max_numbering x
Holds P (OverMin x) = P (Option ℤ) MinKind min_ring max_numbering x
Holds P (OverBool x) = P Bool BoolKind truth_ring truth_numbering x

-- a grammar, said once over any semiring and its numbering
abbrev pub Grammars : (Type 0 → Type 0) → Type 1
Grammars F = (V : Type 0) → RingKind → Semiring V → Numbering V → List Piece → F V → Type 0

-- the texts of the grammar in the semiring of the kind
abbrev pub InKind : {F : Type 0 → Type 0} → Grammars F → RingKind → List Piece → Over F → Type 0
InKind G MaxKind = Then (G (Option ℤ) MaxKind max_ring max_numbering) (λ x. Empty (OverMax x))
InKind G MinKind = Then (G (Option ℤ) MinKind min_ring max_numbering) (λ x. Empty (OverMin x))
InKind G BoolKind = Then (G Bool BoolKind truth_ring truth_numbering) (λ x. Empty (OverBool x))

-- a reading function, said once over any semiring and its numbering
abbrev pub Readings : (Type 0 → Type 0) → Type 1
Readings F = (V : Type 0) → RingKind → Semiring V → Numbering V → List Piece → Reading Piece FaultKind (F V)

unfoldable pub in_kind_at : {F : Type 0 → Type 0} → Readings F → RingKind → List Piece →
    Reading Piece FaultKind (Over F)
in_kind_at r MaxKind = r (Option ℤ) MaxKind max_ring max_numbering >>= λ x. gives (OverMax x)
in_kind_at r MinKind = r (Option ℤ) MinKind min_ring max_numbering >>= λ x. gives (OverMin x)
in_kind_at r BoolKind = r Bool BoolKind truth_ring truth_numbering >>= λ x. gives (OverBool x)
