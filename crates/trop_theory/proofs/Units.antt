-- The unit vectors are the canonical list of the whole space.
use Rattle.std.proofs.Common.{◌≡◌, ◌≢◌, ◌<◌, ◌+◌, ◌-◌, ℕ, zero, suc, List, [], ◌∷◌, length, inl, inr, ⊎_elim, sym, ap, ◌∙◌, arith, subst, get_or}
use Rattle.std.specs.Prelude.{All, Any, AllPairs, remove, ◌↔◌}
use Rattle.std.proofs.lemmas.Bool.{cases_lt, cases_eq}
use Rattle.std.proofs.lemmas.List.{get_or_default, get_or_past}
use Rattle.std.proofs.lemmas.List.Edits.{get_or-remove_below, get_or-remove_above, length-remove}
use Rattle.std.proofs.lemmas.List.Elements.{All-nil}
use Rattle.trop_theory.specs.Semiring.{Semiring, SemiringLaws, Le}
use Rattle.trop_theory.specs.Vectors.{entry}
use Rattle.trop_theory.specs.Normal.{IsNormal}
use Rattle.trop_theory.specs.Inequalities.{IsTrueAt, Solves}
use Rattle.trop_theory.specs.Combinations.{IsCombination}
use Rattle.trop_theory.specs.Canonical.{RowBelow, IsCanonical}
use Rattle.trop_theory.specs.Residual.{Meets}
use Rattle.trop_theory.proofs.Order.{le_refl, zero_below, times_one, times_zero}
use Rattle.trop_theory.proofs.Rows.{entry-scaled}
use Rattle.trop_theory.proofs.Combinations.{IsCombination-length}
use Rattle.trop_theory.proofs.Residual.{met_from_IsCombination, IsCombination_from_met, none_meets}
use Rattle.trop_theory.proofs.Canonical.{IsCanonical-same, IsCanonical-from_alone}
use Rattle.plain_lemmas.proofs.Lists.{All-remove}

-- the one at coordinate i, the zero elsewhere
pub record IsUnit {V : Type 0} (R : Semiring V) (n i : ℕ) (x : List V) : Type 0 where
  pub wide : length x ≡ n
  pub at : entry R x i ≡ R.one
  pub elsewhere : (j : ℕ) → j ≢ i → entry R x j ≡ R.zero

module _ {V : Type 0} (R : Semiring V) where
  -- the first difference decides
  pub RowBelow-from_first : (x y : List V) (m : ℕ) → m < length x → m < length y →
      ((i : ℕ) → i < m → entry R x i ≡ entry R y i) → Le R (entry R x m) (entry R y m) → entry R x m ≢ entry R y m →
      RowBelow R x y
  RowBelow-from_first [] y m l k e h d = absurd (omega arith)
  RowBelow-from_first (a ∷ x) [] m l k e h d = absurd (omega arith)
  RowBelow-from_first (a ∷ x) (b ∷ y) zero l k e h d = inl (h, d)
  RowBelow-from_first (a ∷ x) (b ∷ y) (suc m) l k e h d =
      inr (
        e 0 (omega arith),
        RowBelow-from_first x y m (omega arith) (omega arith)
            (λ i lt. e (suc i) (omega arith)) h d,
      )

module _ {V : Type 0} {R : Semiring V} (laws : SemiringLaws R) (n : ℕ) (units : List (List V)) (many : length units ≡ n)
    (each : (k : ℕ) (d : List V) → k < n → IsUnit R n (n - 1 - k) (get_or units k d)) where
  wide : All (λ g. length g ≡ n) units
  wide k d l = (each k d (omega arith)).wide

  normal : All (IsNormal R) units
  normal k d l =
      let u = each k d (omega arith) in
      record {
        first = n - 1 - k;
        within = omega (arith, u.wide);
        is_one = u.at;
        before = λ i lt. u.elsewhere i (omega arith);
      }

  ascending : AllPairs (RowBelow R) units
  ascending i j d lt l =
      let u = each i d (omega arith) in
      let v = each j d (omega arith) in
      let low : entry R (get_or units i d) (n - 1 - j) ≡ R.zero = u.elsewhere (n - 1 - j) (omega arith) in
      RowBelow-from_first R (get_or units i d) (get_or units j d) (n - 1 - j) (omega (arith, u.wide))
      (omega (arith, v.wide))
      (λ m k. u.elsewhere m (omega arith) ∙ sym (v.elsewhere m (omega arith)))
      (subst (λ a. Le R a (entry R (get_or units j d) (n - 1 - j))) (sym low) (zero_below laws _))
      (λ e. laws.one_finite (sym v.at ∙ sym e ∙ low))

  -- no other unit meets the coordinate of one
  alone : (k : ℕ) (d : List V) → k < length units → IsCombination R n (remove units k) (get_or units k d) → ⊥
  alone k d l c =
      let u = each k d (omega arith) in
      let finite : entry R (get_or units k d) (n - 1 - k) ≢ R.zero = λ z. laws.one_finite (sym u.at ∙ z) in
      let a = met_from_IsCombination laws n (remove units k) (get_or units k d)
      (All-remove (λ g. length g ≡ n) units k wide) c (n - 1 - k) finite in
      none_meets laws (get_or units k d) a.1 (n - 1 - k) (other a.0 a.1 a.2 a.3) finite a.4
    where
      other : (j : ℕ) (g : List V) → j < length (remove units k) → get_or (remove units k) j g ≡ g →
          entry R g (n - 1 - k) ≡ R.zero
      other j g lt e = ⊎_elim
          (λ b. ap (λ r. entry R r (n - 1 - k)) (sym e ∙ get_or-remove_below units k g j b l)
          ∙ (each j g (omega arith)).elsewhere (n - 1 - k) (omega arith))
          (λ b. ap (λ r. entry R r (n - 1 - k)) (sym e ∙ get_or-remove_above units k g j b l)
          ∙ (each (j + 1) g (omega (arith, length-remove units k l))).elsewhere (n - 1 - k)
          (omega (arith, length-remove units k l)))
          (cases_lt j k)

  -- a vector is the sum of the multiples of the units by its entries
  combination : (x : List V) → length x ≡ n → IsCombination R n units x
  combination x l = IsCombination_from_met laws n units x wide l
      (λ t f. ⊎_elim (λ lt. meets t lt) (λ le. absurd (f (get_or_past x t R.zero (omega arith)))) (cases_lt t n))
    where
      meets : (t : ℕ) → t < n → Any (Meets R x t) units
      meets t lt =
          let u = each (n - 1 - t) [] (omega arith) in
          let same : n - 1 - (n - 1 - t) ≡ t = omega arith in
          let here : entry R (get_or units (n - 1 - t) []) t ≡ R.one =
          ap (entry R (get_or units (n - 1 - t) [])) (sym same) ∙ u.at in (
            n - 1 - t,
            get_or units (n - 1 - t) [],
            omega arith,
            get_or_default units (n - 1 - t) (get_or units (n - 1 - t) []) [] (omega arith),
            record {
              multiple = entry R x t;
              below = λ i. subst (λ v. Le R v (entry R x i))
                  (sym (entry-scaled laws (entry R x t) (get_or units (n - 1 - t) []) i)) (⊎_elim
                  (λ e. subst (λ v. Le R v (entry R x i))
                  (sym (ap (R.times (entry R x t)) (ap (entry R (get_or units (n - 1 - t) [])) e ∙ here)
                  ∙ times_one laws (entry R x t)))
                  (subst (λ j. Le R (entry R x t) (entry R x j)) (sym e) (le_refl laws (entry R x t))))
                  (λ ne. subst (λ v. Le R v (entry R x i))
                  (sym (ap (R.times (entry R x t)) (u.elsewhere i (λ e. ne (e ∙ same)))
                  ∙ times_zero laws (entry R x t))) (zero_below laws (entry R x i)))
                  (cases_eq i t));
              meets = ap (R.times (entry R x t)) here ∙ times_one laws (entry R x t);
            },
          )

  -- they generate the whole space
  pub units_generate : (x : List V) → Solves R n [] x ↔ IsCombination R n units x
  units_generate x = (
    λ h. combination x h.wide,
    λ c. record { wide = IsCombination-length laws n units x wide c; holds = All-nil (λ p. IsTrueAt R p x) },
  )

  pub units_canonical : IsCanonical R (Solves R n []) units
  units_canonical = IsCanonical-same (IsCombination R n units) (Solves R n [])
      (λ x. ((units_generate x).1, (units_generate x).0)) units
      (IsCanonical-from_alone laws n units wide ascending normal alone)
