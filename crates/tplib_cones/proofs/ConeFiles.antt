-- What is printed of a canonical list.
use Rattle.std.proofs.Common.{◌≡◌, ◌+◌, ◌↔◌, ℕ, List, length, subst}
use Rattle.std.specs.Prelude.{All}
use Rattle.trop_theory.specs.Semiring.{Semiring, SemiringLaws}
use Rattle.trop_theory.specs.Numbers.{Numbering}
use Rattle.trop_theory.specs.Combinations.{IsCombination}
use Rattle.trop_theory.specs.Canonical.{IsCanonical}
use Rattle.trop_theory.proofs.Canonical.{IsCanonical-same}
use Rattle.trop_spelling.specs.declared.ring_kind.RingKind.{RingKind}
use Rattle.trop_files.specs.PrintedFiles.{printed_gens}
use Rattle.tplib_cones.specs.ConeFiles.{IsConeFile}
use Rattle.tplib_cones.proofs.Independent.{independent}

module _ {V : Type 0} {R : Semiring V} (laws : SemiringLaws R) (kind : RingKind) (N : Numbering V)
    (names : List (List ℕ)) (cone : List V → Type 0) (rows : List (List V)) (text : List ℕ) where
  printed_in : All (λ g. length g ≡ length names + 1) rows → IsCanonical R cone rows →
      ((x : List V) → cone x ↔ IsCombination R (length names + 1) rows x) → text ≡ printed_gens kind N names rows →
      IsConeFile kind R N names cone text
  printed_in wide canonical generates printed = record {
    answer = rows;
    canonical = canonical;
    generates = generates;
    independent = independent laws (length names + 1) rows wide
        (IsCanonical-same cone (IsCombination R (length names + 1) rows) generates rows canonical);
    printed = printed;
  }

  -- the file of a cone in n coordinates
  pub cone_file : (n : ℕ) → n ≡ length names + 1 → All (λ g. length g ≡ n) rows → IsCanonical R cone rows →
      ((x : List V) → cone x ↔ IsCombination R n rows x) → text ≡ printed_gens kind N names rows →
      IsConeFile kind R N names cone text
  cone_file n width wide canonical generates printed =
      printed_in (subst (λ m. All (λ g. length g ≡ m) rows) width wide) canonical
      (subst (λ m. (x : List V) → cone x ↔ IsCombination R m rows x) width generates) printed
