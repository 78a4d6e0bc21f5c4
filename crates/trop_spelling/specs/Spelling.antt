-- The words of the three semirings in texts.
use Rattle.std.specs.Prelude.{◌≡◌, ◌⊎◌, ℕ, ℤ, pos, true, false, Bool, List, codes, Option, Some, None}
use Rattle.std.specs.Fmt.{signed_decimal}
use Rattle.trop_theory.specs.Semiring.{Semiring}
use Rattle.trop_theory.specs.Numbers.{Numbering, NumericLaws}
use Rattle.trop_spelling.specs.declared.ring_kind.RingKind.{RingKind}
use Rattle.trop_spelling.specs.declared.ring_kind.RingKind.TheVariants.{Max as MaxKind, Min as MinKind, Bool as BoolKind}

-- the word that names the semiring in a header
abbrev pub ring_word : RingKind → List ℕ
ring_word MaxKind = codes "max"
ring_word MinKind = codes "min"
ring_word BoolKind = codes "bool"

-- the word before the terms of a sum
abbrev pub sum_word : RingKind → List ℕ
sum_word MaxKind = codes "max"
sum_word MinKind = codes "min"
sum_word BoolKind = codes "or"

-- the word between the sides of an inequality, where the left is at most the right in the semiring's order
abbrev pub order_word : RingKind → List ℕ
order_word MaxKind = codes "<="
order_word MinKind = codes ">="
order_word BoolKind = codes "=>"

-- an element by its number; the zero has none
abbrev pub element_text : RingKind → Option ℤ → List ℕ
element_text MaxKind None = codes "-oo"
element_text MinKind None = codes "oo"
element_text BoolKind None = codes "false"
element_text MaxKind (Some n) = signed_decimal n
element_text MinKind (Some n) = signed_decimal n
element_text BoolKind (Some n) = codes "true"

-- each finite element is the one, whose number is 0
pub record IsTruthOnly {V : Type 0} (R : Semiring V) (N : Numbering V) : Type 0 where
  pub two : (a : V) → (a ≡ R.zero) ⊎ (a ≡ R.one)
  pub number : N.to R.one ≡ Some (pos 0)

-- what the elements of each semiring are
abbrev pub KindLaws : {V : Type 0} → RingKind → Semiring V → Numbering V → Bool → Type 0
KindLaws MaxKind R N reversed = NumericLaws R N reversed × (reversed ≡ false)
KindLaws MinKind R N reversed = NumericLaws R N reversed × (reversed ≡ true)
KindLaws BoolKind R N reversed = IsTruthOnly R N
