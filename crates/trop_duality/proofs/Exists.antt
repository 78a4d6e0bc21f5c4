-- Each generated cone has an external list.
use Rattle.std.proofs.Common.{◌≡◌, ◌≢◌, ℕ, zero, suc, List, [], ◌++◌, length, map, inl, inr, ⊎_elim, refl}
use Rattle.std.specs.Prelude.{All}
use Rattle.trop_theory.specs.Semiring.{Semiring, SemiringLaws}
use Rattle.trop_theory.specs.Vectors.{entry}
use Rattle.trop_theory.specs.Inequalities.{Inequality}
use Rattle.trop_theory.specs.Combinations.{IsCombination}
use Rattle.trop_cones.proofs.Exists.{canonical_solutions_exist, chosen_exist}
use Rattle.trop_duality.specs.Polars.{polar_system}
use Rattle.trop_duality.specs.External.{bound_of, AreBounds, IsExternalUpTo, IsExternal}
use Rattle.trop_duality.proofs.Polars.{IsIn-polar_system}
use Rattle.trop_duality.proofs.External.{canonical_polar}

module _ {V : Type 0} {R : Semiring V} (laws : SemiringLaws R) (n : ℕ) where
  bounds_exist : (rows : List (List V)) → All (λ g. length g ≡ n) rows → (i : ℕ) →
      (bounds : List (Inequality V)) × AreBounds R n (IsCombination R n rows) i bounds
  bounds_exist rows w i =
      let c = canonical_solutions_exist laws n (polar_system R i rows) (IsIn-polar_system laws n i rows w) in
      let f = chosen_exist laws n (λ u. entry R u i ≢ R.zero)
      (λ u. ⊎_elim (λ z. inr (λ q. q z)) (λ q. inl q) (laws.discrete (entry R u i) R.zero)) c.0 in (
        map (bound_of R i) f.0,
        record {
          polar = c.0;
          finite = f.0;
          canonical = canonical_polar laws n i rows c.0 w c.1;
          chosen = f.1;
          read = refl;
        },
      )

  up_to_exists : (rows : List (List V)) → All (λ g. length g ≡ n) rows → (m : ℕ) →
      (system : List (Inequality V)) × IsExternalUpTo R n (IsCombination R n rows) m system
  up_to_exists rows w zero = ([], refl)
  up_to_exists rows w (suc m) =
      let front = up_to_exists rows w m in
      let b = bounds_exist rows w m in
      (front.0 ++ b.0, (front.0, b.0, refl, front.1, b.1))

  -- each generated cone has an external list
  pub external_exists : (rows : List (List V)) → All (λ g. length g ≡ n) rows →
      (system : List (Inequality V)) × IsExternal R n (IsCombination R n rows) system
  external_exists rows w = up_to_exists rows w n
