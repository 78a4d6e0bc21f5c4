-- Whether the rows generate everything, tried at one unit row after another.
use Rattle.std.proofs.Common.{◌≡◌, ◌<◌, ◌≤◌, ◌+◌, ⊎_elim, ℕ, zero, suc, true, false, List, length, refl, sym, ◌∙◌, subst, arith, true≢false}
use Rattle.std.specs.Prelude.{All, IsTrue, ◌↔◌}
use Rattle.std.proofs.lemmas.Bool.{cases_lt}
use Rattle.std.proofs.lemmas.List.Elements.{All-cons, All-nil}
use Rattle.std.proofs.lemmas.List.{length-set, length-replicate}
use Rattle.trop_theory.specs.Semiring.{Semiring, SemiringLaws}
use Rattle.trop_theory.specs.Vectors.{bottom, row_size, AreWide}
use Rattle.trop_theory.specs.Combinations.{IsCombination}
use Rattle.trop_cones.specs.Sets.{IsVector}
use Rattle.trop_cones.proofs.Sizes.{row_size-set, row_size-bottom}
use Rattle.trop_cones.proofs.Generated.{units_below}
use Rattle.cone_reports.specs.EdgeLists.{unit_row}
use Rattle.cone_reports.proofs.Checks.{whole_is_units}

module _ {V : Type 0} {R : Semiring V} (laws : SemiringLaws R) (n : ℕ) where
  pub unit_wide : (i : ℕ) → length (unit_row R n i) ≡ n
  unit_wide i = length-set (bottom R n) i R.one ∙ length-replicate n R.zero

  pub unit_small : (i m : ℕ) → row_size R (unit_row R n i) ≤ m
  unit_small i m = row_size-set laws (bottom R n) i R.one m (row_size-bottom laws n m) (omega (arith, laws.size_one))

  each_unit : (rows : List (List V)) (m : ℕ) → ((i : ℕ) → i < m → IsCombination R n rows (unit_row R n i))
      → All (IsCombination R n rows) (units_below R n m)
  each_unit rows zero h = All-nil (IsCombination R n rows)
  each_unit rows (suc m) h = All-cons (IsCombination R n rows) (unit_row R n m) (units_below R n m) (h m (omega arith))
      (each_unit rows m (λ i l. h i (omega arith)))

  -- each unit row is a combination
  pub whole_from_units : (rows : List (List V)) → AreWide n rows
      → ((i : ℕ) → i < n → IsCombination R n rows (unit_row R n i))
      → IsTrue true ↔ ((x : List V) → IsVector n x → IsCombination R n rows x)
  whole_from_units rows w h = (λ t. (whole_is_units laws n rows w).1 (each_unit rows n h), λ k. refl)

  -- one is none
  pub not_whole : (rows : List (List V)) (i : ℕ) → (IsCombination R n rows (unit_row R n i) → ⊥)
      → IsTrue false ↔ ((x : List V) → IsVector n x → IsCombination R n rows x)
  not_whole rows i fails = (λ f. absurd (true≢false (sym f)), λ h. absurd (fails (h (unit_row R n i) (unit_wide i))))

  pub units_more : (rows : List (List V)) (k : ℕ) (unit : List V) → unit ≡ unit_row R n k
      → ((i : ℕ) → i < k → IsCombination R n rows (unit_row R n i)) → IsCombination R n rows unit
      → (i : ℕ) → i < k + 1 → IsCombination R n rows (unit_row R n i)
  units_more rows k unit e before here i l = ⊎_elim
      (λ lt. before i lt)
      (λ le. let same : k ≡ i = omega arith in
      subst (λ j. IsCombination R n rows (unit_row R n j)) same (subst (IsCombination R n rows) e here))
      (cases_lt i k)
