-- Two values that stand over one of the three semirings each, compared in it.
use Rattle.std.specs.Prelude.{ℤ, Bool, Option}
use Rattle.trop_theory.specs.Semiring.{Semiring}
use Rattle.trop_theory.specs.Numbers.{Numbering}
use Rattle.trop_scalar.specs.MaxPlus.{max_ring, max_numbering}
use Rattle.trop_scalar.specs.MinPlus.{min_ring}
use Rattle.trop_scalar.specs.Truth.{truth_ring, truth_numbering}
use Rattle.trop_spelling.specs.declared.ring_kind.RingKind.{RingKind}
use Rattle.trop_spelling.specs.declared.ring_kind.RingKind.TheVariants.{Max as MaxKind, Min as MinKind, Bool as BoolKind}
use Rattle.trop_spelling.specs.Over.{Over, OverMax, OverMin, OverBool}

-- what P says of the two, where they stand over one semiring
abbrev pub HoldsOfBoth : {F : Type 0 → Type 0} → ((V : Type 0) → RingKind → Semiring V → Numbering V → F V → F V →
    Type 0) → Over F → Over F → Type 0
HoldsOfBoth P (OverMax x) (OverMax y) = P (Option ℤ) MaxKind max_ring max_numbering x y
HoldsOfBoth P (OverMin x) (OverMin y) = P (Option ℤ) MinKind min_ring max_numbering x y
HoldsOfBoth P (OverBool x) (OverBool y) = P Bool BoolKind truth_ring truth_numbering x y
HoldsOfBoth P x y = ⊥

-- they stand over one semiring
abbrev pub AreOverOne : {F : Type 0 → Type 0} → Over F → Over F → Type 0
AreOverOne = HoldsOfBoth (λ V kind R N x y. Unit {0})
