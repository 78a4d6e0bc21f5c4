-- The external list of the cone of bottom alone, which no rows generate: it has one inequality for each coordinate.
use Rattle.std.proofs.Common.{◌≡◌, ◌≢◌, ◌<◌, ◌≤◌, ◌-◌, ℕ, zero, suc, List, [], ◌∷◌, length, set, get_or, ⊎_elim, sym, ap, ◌∙◌, arith, subst}
use Rattle.std.specs.Prelude.{All, AllPairs}
use Rattle.std.proofs.lemmas.Bool.{cases_eq}
use Rattle.std.proofs.lemmas.List.{length-map, length-append}
use Rattle.std.proofs.lemmas.List.Elements.{All-nil, All-contains, Contains-get_or}
use Rattle.trop_theory.specs.Semiring.{Semiring, SemiringLaws}
use Rattle.trop_theory.specs.Vectors.{entry, bottom}
use Rattle.trop_theory.specs.Normal.{IsNormal}
use Rattle.trop_theory.specs.Inequalities.{Inequality, Solves}
use Rattle.trop_theory.specs.Combinations.{IsCombination}
use Rattle.trop_theory.specs.Extreme.{IsExtreme}
use Rattle.trop_theory.specs.Canonical.{RowBelow, row_limit}
use Rattle.trop_theory.specs.StepList.{AreChosen}
use Rattle.trop_theory.proofs.Rows.{same_rows}
use Rattle.trop_theory.proofs.Units.{IsUnit}
use Rattle.trop_theory.proofs.Canonical.{IsExtreme-same}
use Rattle.trop_theory.proofs.Distinct.{ascending_distinct}
use Rattle.plain_lemmas.proofs.Distinct.{no_longer}
use Rattle.trop_theory.proofs.StepLists.{from_chosen}
use Rattle.trop_theory.proofs.Chosen.{pairs_chosen}
use Rattle.trop_duality.specs.Polars.{InPolar}
use Rattle.trop_duality.specs.External.{bound_of, AreBounds, IsExternalUpTo}
use Rattle.trop_duality.specs.PolarStops.{IsListOver}
use Rattle.trop_duality.proofs.Polars.{polar_system_is_polar}
use Rattle.trop_cones.proofs.Generated.{length-units, unit_at, IsUnit-set, units_below_canonical}

module _ {V : Type 0} {R : Semiring V} (laws : SemiringLaws R) (n : ℕ) where
  unit_same : (i : ℕ) (u v : List V) → IsUnit R n i u → IsUnit R n i v → u ≡ v
  unit_same i u v h k = same_rows R u v (h.wide ∙ sym k.wide) (λ j. ⊎_elim
      (λ e. ap (entry R u) e ∙ h.at ∙ sym k.at ∙ ap (entry R v) (sym e))
      (λ f. h.elsewhere j f ∙ sym (k.elsewhere j f))
      (cases_eq j i))

  -- an extreme vector of the whole space in normal form, finite at i
  finite_is_unit : (i : ℕ) (u : List V) → i < n → IsNormal R u → IsExtreme R (Solves R n []) u → entry R u i ≢ R.zero →
      set (bottom R n) i R.one ≡ u
  finite_is_unit i u l normal extreme f =
      let c = (units_below_canonical laws n).complete u normal extreme in
      let at : IsUnit R n (n - 1 - c.0) u = subst (IsUnit R n (n - 1 - c.0)) c.2
      (unit_at R n n (omega arith) c.0 u (omega (arith, c.1, length-units R n n))) in
      let same : i ≡ n - 1 - c.0 = ⊎_elim (λ e. e) (λ ne. absurd (f (at.elsewhere i ne))) (cases_eq i (n - 1 - c.0)) in
      unit_same i (set (bottom R n) i R.one) u (IsUnit-set R n i l) (subst (λ j. IsUnit R n j u) (sym same) at)

  one_bound : (i : ℕ) (bounds : List (Inequality V)) → i < n → AreBounds R n (IsCombination R n []) i bounds →
      length bounds ≤ 1
  one_bound i bounds l h =
      let at_most : length h.finite ≤ length (set (bottom R n) i R.one ∷ []) =
      no_longer h.finite (set (bottom R n) i R.one ∷ [])
      (ascending_distinct R h.finite (pairs_chosen (RowBelow R)
      (λ u. entry R u i ≢ R.zero) h.polar h.finite h.chosen h.canonical.ascending))
      (λ k d m.
      let c = from_chosen (λ u. entry R u i ≢ R.zero) h.polar h.finite h.chosen (get_or h.finite k d)
      (Contains-get_or h.finite k d m) in (
        0,
        omega arith,
        finite_is_unit i (get_or h.finite k d) l (All-contains (IsNormal R) h.polar
            (get_or h.finite k d) h.canonical.normal c.0)
            (IsExtreme-same (InPolar R n (IsCombination R n []) i) (Solves R n [])
            (λ v. (
              (polar_system_is_polar laws n i [] (All-nil (λ g. length g ≡ n)) v).1,
              (polar_system_is_polar laws n i [] (All-nil (λ g. length g ≡ n)) v).0,
            )) (get_or h.finite k d)
            (All-contains (IsExtreme R (InPolar R n (IsCombination R n []) i)) h.polar
            (get_or h.finite k d) h.canonical.extreme c.0))
            c.1,
      )) in
      omega (arith, ap length h.read, length-map h.finite (bound_of R i))

  pub length_external_bottom : (m : ℕ) (system : List (Inequality V)) → m ≤ n →
      IsExternalUpTo R n (IsCombination R n []) m system → length system ≤ m
  length_external_bottom zero system l h = omega (arith, ap length h)
  length_external_bottom (suc m) system l h = omega (
    arith,
    ap length h.2,
    length-append h.0 h.1,
    length_external_bottom m h.0 (omega arith) h.3,
    one_bound m h.1 (omega arith) h.4,
  )

  -- so it is never over the limit
  pub bottom_list_within : n ≤ row_limit → (i : ℕ) → i < n → IsListOver R n [] i → ⊥
  bottom_list_within l i m over =
      let many = over.many in
      let few = length_external_bottom (suc i) over.bounds m over.up_to in
      omega arith
