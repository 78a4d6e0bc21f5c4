-- What holds of truth values in texts.
use Rattle.std.specs.Prelude.{◌≡◌, ◌⊎◌, Bool, true, false, refl}
use Rattle.std.proofs.Common.{inl, inr}
use Rattle.trop_scalar.specs.Truth.{truth_ring, truth_numbering}
use Rattle.trop_spelling.specs.Spelling.{IsTruthOnly}

two : (a : Bool) → (a ≡ false) ⊎ (a ≡ true)
two true = inr refl
two false = inl refl

pub truth_only : IsTruthOnly truth_ring truth_numbering
truth_only = record { two = two; number = refl }
