-- The file of a cone: its canonical list as it is printed.
use Rattle.std.specs.Prelude.{◌≡◌, ◌↔◌, ◌+◌, ℕ, List, length}
use Rattle.trop_theory.specs.Semiring.{Semiring}
use Rattle.trop_theory.specs.Numbers.{Numbering}
use Rattle.trop_theory.specs.Combinations.{IsCombination, AreIndependent}
use Rattle.trop_theory.specs.Canonical.{IsCanonical}
use Rattle.trop_spelling.specs.declared.ring_kind.RingKind.{RingKind}
use Rattle.trop_files.specs.PrintedFiles.{printed_gens}

-- The text is the file of the canonical list of the cone. The rows that it prints generate just the cone, and none of
-- them is a combination of the others.
pub record IsConeFile {V : Type 0} (kind : RingKind) (R : Semiring V) (N : Numbering V) (names : List (List ℕ))
    (cone : List V → Type 0) (text : List ℕ) : Type 0 where
  pub answer : List (List V)
  pub canonical : IsCanonical R cone answer
  pub generates : (x : List V) → cone x ↔ IsCombination R (length names + 1) answer x
  pub independent : AreIndependent R (length names + 1) answer (length answer)
  pub printed : text ≡ printed_gens kind N names answer
