-- The sizes of external lists.
use Rattle.std.proofs.Common.{◌≡◌, ◌≢◌, ◌<◌, ◌≤◌, ◌-◌, ◌*◌, ℕ, zero, suc, List, length, get_or, ⊎_elim, sym, ap, ◌∙◌, arith, subst}
use Rattle.std.specs.Prelude.{All}
use Rattle.std.proofs.lemmas.List.Elements.{All-nil, All-append, All-map, All-contains, Contains-get_or}
use Rattle.trop_theory.specs.Semiring.{Semiring, SemiringLaws}
use Rattle.trop_theory.specs.Vectors.{entry, scaled, bottom, row_size, rows_size}
use Rattle.trop_theory.specs.Inequalities.{Inequality, Solves, inequality_size, system_size}
use Rattle.trop_theory.specs.Combinations.{IsCombination}
use Rattle.trop_theory.specs.Extreme.{IsExtreme}
use Rattle.trop_theory.proofs.Order.{times_zero}
use Rattle.trop_theory.proofs.Rows.{entry-scaled}
use Rattle.trop_theory.proofs.StepLists.{from_chosen}
use Rattle.trop_theory.proofs.Canonical.{IsExtreme-same}
use Rattle.trop_criterion.specs.SizeBound.{HasSpread}
use Rattle.trop_criterion.proofs.SizeBound.{extreme_entries_near}
use Rattle.trop_duality.specs.Polars.{polar_inequality, polar_system, InPolar}
use Rattle.trop_duality.specs.External.{bound_of, AreBounds, IsExternalUpTo, IsExternal}
use Rattle.trop_duality.proofs.Polars.{IsIn-polar_system, polar_system_is_polar}
use Rattle.trop_cones.proofs.Sizes.{row_size-each, size_entry, row_size-set, row_size-bottom, system_size-each, All-rows_size}

module _ {V : Type 0} {R : Semiring V} (laws : SemiringLaws R) where
  -- the inequality of a polar row is no larger than the row
  pub size-polar_inequality : (i : ℕ) (u : List V) (m : ℕ) → row_size R u ≤ m →
      inequality_size R (polar_inequality R i u) ≤ m
  size-polar_inequality i u m h =
      omega (
        arith,
        row_size-set laws (bottom R (length u)) i (entry R u i) m (row_size-bottom laws (length u) m)
            (omega (arith, size_entry laws u i)),
        row_size-set laws u i R.zero m h (omega (arith, laws.size_zero)),
      )

  pub system_size-polar : (i : ℕ) (rows : List (List V)) (m : ℕ) → rows_size R rows ≤ m →
      system_size R (polar_system R i rows) ≤ m
  system_size-polar i rows m h = system_size-each laws (polar_system R i rows) m
      (All-map (λ p. inequality_size R p ≤ m) (polar_inequality R i) rows
      (λ k d l. size-polar_inequality i (get_or rows k d) m (All-rows_size laws rows m h k d l)))

  -- a bound has the quotients of the entries of its row
  pub size-bound_of : (i : ℕ) (u : List V) (m : ℕ) → entry R u i ≢ R.zero → HasSpread R m u →
      inequality_size R (bound_of R i u) ≤ m
  size-bound_of i u m f h = size-polar_inequality i (scaled R (R.inverse (entry R u i)) u) m
      (row_size-each R (scaled R (R.inverse (entry R u i)) u) m
      (λ j l. subst (λ v. R.size v ≤ m) (sym (entry-scaled laws (R.inverse (entry R u i)) u j)) (⊎_elim
      (λ z. omega (arith, ap R.size (ap (R.times (R.inverse (entry R u i))) z ∙ times_zero laws _), laws.size_zero))
      (λ q. subst (λ v. R.size v ≤ m) (laws.times_comm (entry R u j) (R.inverse (entry R u i))) (h j i q f))
      (laws.discrete (entry R u j) R.zero))))

module _ {V : Type 0} {R : Semiring V} (laws : SemiringLaws R) (n : ℕ) (cone : List V → Type 0) (m : ℕ)
    (near : (i : ℕ) (u : List V) → i < n → IsExtreme R (InPolar R n cone i) u → HasSpread R m u) where
  size-bounds : (i : ℕ) (bounds : List (Inequality V)) → i < n → AreBounds R n cone i bounds →
      All (λ p. inequality_size R p ≤ m) bounds
  size-bounds i bounds l h =
      subst (All (λ p. inequality_size R p ≤ m)) (sym h.read)
      (All-map (λ p. inequality_size R p ≤ m) (bound_of R i) h.finite (λ k d lt.
      let c = from_chosen (λ u. entry R u i ≢ R.zero) h.polar h.finite h.chosen (get_or h.finite k d)
      (Contains-get_or h.finite k d lt) in
      size-bound_of laws i (get_or h.finite k d) m c.1
      (near i (get_or h.finite k d) l (All-contains (IsExtreme R (InPolar R n cone i)) h.polar
      (get_or h.finite k d) h.canonical.extreme c.0))))

  size-up_to : (k : ℕ) (system : List (Inequality V)) → k ≤ n → IsExternalUpTo R n cone k system →
      All (λ p. inequality_size R p ≤ m) system
  size-up_to zero system l h = subst (All (λ p. inequality_size R p ≤ m)) (sym h)
      (All-nil (λ p. inequality_size R p ≤ m))
  size-up_to (suc k) system l h =
      subst (All (λ p. inequality_size R p ≤ m)) (sym h.2)
      (All-append (λ p. inequality_size R p ≤ m) h.0 h.1 (size-up_to k h.0 (omega arith) h.3)
      (size-bounds k h.1 (omega arith) h.4))

  -- where the extreme vectors of the polars have their finite entries within m, so is the external list
  pub external_size_from_near : (system : List (Inequality V)) → IsExternal R n cone system → system_size R system ≤ m
  external_size_from_near system h = system_size-each laws system m (size-up_to n system (omega arith) h)

module _ {V : Type 0} {R : Semiring V} (laws : SemiringLaws R) (n : ℕ) (rows : List (List V))
    (w : All (λ g. length g ≡ n) rows) where
  -- two finite entries of an extreme vector of a polar
  pub polar_entries_near : (m : ℕ) → rows_size R rows ≤ m → (i : ℕ) (u : List V) →
      IsExtreme R (InPolar R n (IsCombination R n rows) i) u → HasSpread R (4 * m * (n - 1)) u
  polar_entries_near m h i u e = extreme_entries_near laws n m (polar_system R i rows) u
      (IsIn-polar_system laws n i rows w) (system_size-polar laws i rows m h)
      (IsExtreme-same (InPolar R n (IsCombination R n rows) i) (Solves R n (polar_system R i rows))
      (λ v. ((polar_system_is_polar laws n i rows w v).1, (polar_system_is_polar laws n i rows w v).0)) u e)

  -- the size of the external list of rows of size at most m
  pub external_size : (m : ℕ) (system : List (Inequality V)) → rows_size R rows ≤ m →
      IsExternal R n (IsCombination R n rows) system → system_size R system ≤ 4 * m * (n - 1)
  external_size m system h e = external_size_from_near laws n (IsCombination R n rows) (4 * m * (n - 1))
      (λ i u l x. polar_entries_near m h i u x) system e
