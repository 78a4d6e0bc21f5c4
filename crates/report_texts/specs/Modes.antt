-- The two modes of a report. Each is a semiring of whole numbers with a rule for the words in asserts.
use Rattle.std.specs.Prelude.{ℕ, ℤ, Bool, true, false, List, codes, Option}
use Rattle.trop_theory.specs.Semiring.{Semiring}
use Rattle.trop_theory.specs.Numbers.{Numbering}
use Rattle.trop_scalar.specs.MaxPlus.{max_ring, max_numbering}
use Rattle.trop_scalar.specs.MinPlus.{min_ring}
use Rattle.trop_spelling.specs.declared.ring_kind.RingKind.{RingKind}
use Rattle.trop_spelling.specs.declared.ring_kind.RingKind.TheVariants.{Max as MaxKind, Min as MinKind}
use Rattle.prog_texts.specs.AssertRule.{AssertRule, MaxOnly, MinOnly}

pub data Mode : Type 0 where
  InMax : Mode
  InMin : Mode

-- an element is a whole number, or, as None, the zero
abbrev pub Element : Type 0
Element = Option ℤ

abbrev pub kind_of : Mode → RingKind
kind_of InMax = MaxKind
kind_of InMin = MinKind

abbrev pub ring_of : Mode → Semiring Element
ring_of InMax = max_ring
ring_of InMin = min_ring

-- whether the order of the semiring is that of numbers turned round
abbrev pub is_reversed : Mode → Bool
is_reversed InMax = false
is_reversed InMin = true

abbrev pub numbering : Numbering Element
numbering = max_numbering

abbrev pub rule_of : Mode → AssertRule
rule_of InMax = MaxOnly
rule_of InMin = MinOnly

abbrev pub mode_word : Mode → List ℕ
mode_word InMax = codes "max"
mode_word InMin = codes "min"
