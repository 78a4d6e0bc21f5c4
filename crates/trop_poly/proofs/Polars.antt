-- From a polar system to the polar.
use Rattle.std.proofs.Common.{◌≡◌, ◌<◌, ◌≤◌, ◌-◌, ◌*◌, ◌^◌, ℕ, List, length, take, sym, arith, subst}
use Rattle.std.specs.Prelude.{All}
use Rattle.std.proofs.Math.Nat.{mul-le-mul_left}
use Rattle.trop_theory.specs.Semiring.{Semiring, SemiringLaws}
use Rattle.trop_theory.specs.Vectors.{row_size, rows_size}
use Rattle.trop_theory.specs.Inequalities.{Inequality, Solves, system_size}
use Rattle.trop_theory.specs.Combinations.{IsCombination}
use Rattle.trop_theory.specs.Canonical.{IsCanonical, IsOverLimit, row_limit}
use Rattle.trop_duality.specs.Polars.{polar_system, InPolar}
use Rattle.trop_duality.specs.PolarStops.{IsPolarOver}
use Rattle.trop_duality.proofs.External.{canonical_polar}
use Rattle.trop_duality.proofs.PolarStops.{polars_within, polar_over_from_stop}
use Rattle.trop_cones.proofs.Sizes.{rows_size-each}
use Rattle.trop_duality.proofs.Sizes.{system_size-polar}

module _ {V : Type 0} {R : Semiring V} (laws : SemiringLaws R) (n m i : ℕ) (rows : List (List V))
    (w : All (λ g. length g ≡ n) rows) (system : List (Inequality V)) (wide : m ≡ n)
    (same : system ≡ polar_system R i rows) where
  pub canonical_there : (polar : List (List V)) → IsCanonical R (Solves R m system) polar →
      IsCanonical R (InPolar R n (IsCombination R n rows) i) polar
  canonical_there polar h = canonical_polar laws n i rows polar w
      (subst (λ s. IsCanonical R (Solves R n s) polar) same
      (subst (λ k. IsCanonical R (Solves R k system) polar) wide h))

  pub size_there : (s : ℕ) → rows_size R rows ≤ s → system_size R system ≤ s
  size_there s h = subst (λ t. system_size R t ≤ s) (sym same) (system_size-polar laws i rows s h)

  pub within_there : ((j : ℕ) → j ≤ length system → IsOverLimit R (Solves R m (take j system)) → ⊥) → (k : ℕ) →
      k ≤ length rows → IsPolarOver R n rows i k → ⊥
  within_there h = polars_within laws n rows w i system same
      (subst (λ k. (j : ℕ) → j ≤ length system → IsOverLimit R (Solves R k (take j system)) → ⊥) wide h)

  pub stopped_there : n ≤ row_limit → (k : ℕ) → (k ≤ length system) × IsOverLimit R (Solves R m (take k system))
      × ((j : ℕ) → j < k → IsOverLimit R (Solves R m (take j system)) → ⊥) →
      (1 ≤ k) × (k ≤ length rows) × IsPolarOver R n rows i k × ((l : ℕ) → l < k → IsPolarOver R n rows i l → ⊥)
  stopped_there few k h =
      let at = subst (λ a. (k ≤ length system) × IsOverLimit R (Solves R a (take k system))
      × ((j : ℕ) → j < k → IsOverLimit R (Solves R a (take j system)) → ⊥)) wide h in
      polar_over_from_stop laws n rows w i system same few k (record { within = at.0; over = at.1; least = at.2 })

  pub small_there : n ≤ 64 → (polar : List (List V)) → rows_size R rows ≤ 2 ^ 48 →
      All (λ row. row_size R row ≤ 4 * system_size R system * (m - 1)) polar → rows_size R polar ≤ 2 ^ 60
  small_there few polar h each =
      let most : 4 * system_size R system * (m - 1) ≤ 4 * system_size R system * 63 =
      mul-le-mul_left (4 * system_size R system) (omega arith) in
      rows_size-each laws polar (2 ^ 60) (λ k d l. let e = each k d l in let s = size_there (2 ^ 48) h in omega arith)
