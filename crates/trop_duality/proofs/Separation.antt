-- A vector is a combination of rows, or an inequality separates it from them.
-- G. Cohen, S. Gaubert, J.-P. Quadrat: Duality and separation theorems in idempotent semimodules (2004).
-- Index: first_or_none, as_polar, Separates-from_barrier, not_combination_from_separates, combination_or_unmet,
-- combination_or_separated.
use Rattle.std.proofs.Common.{◌≡◌, ◌≢◌, ◌⊎◌, ◌<◌, ◌≤◌, ℕ, zero, suc, List, length, set, get_or, inl, inr, ⊎_elim, sym, ap, ◌∙◌, refl, arith, subst, ap₂}
use Rattle.std.specs.Prelude.{All, Any, Contains}
use Rattle.std.proofs.lemmas.Bool.{cases_lt}
use Rattle.std.proofs.lemmas.List.{length-replicate, length-set, get_or-set_same, get_or-set_other, set-set, set-get_or, get_or_past, get_or_default}
use Rattle.std.proofs.lemmas.List.Elements.{Contains-get_or}
use Rattle.trop_theory.specs.Semiring.{Semiring, SemiringLaws, Le}
use Rattle.trop_theory.specs.Vectors.{entry, bottom}
use Rattle.trop_theory.specs.Combinations.{IsCombination}
use Rattle.trop_theory.specs.Inequalities.{Inequality, IsTrueAt}
use Rattle.trop_theory.specs.Residual.{Meets, IsFirstUnmet}
use Rattle.trop_theory.proofs.Order.{le_refl, le_total, le_antisym, zero_below, below_zero, times_zero, times_mono_left, redo_times, delta_times, delta_moves}
use Rattle.plain_lemmas.proofs.Operations.{swap_middle}
use Rattle.trop_theory.proofs.Rows.{entry-scaled}
use Rattle.trop_theory.proofs.Residual.{meets_from_below, IsCombination_from_met}
use Rattle.trop_theory.proofs.Decided.{Meets-decided}
use Rattle.plain_lemmas.proofs.Decisions.{Decided, all_or_some}
use Rattle.plain_lemmas.proofs.Lists.{Any-decided}
use Rattle.trop_duality.specs.Polars.{polar_inequality}
use Rattle.trop_duality.specs.Barriers.{IsBarrier}
use Rattle.trop_duality.specs.Separation.{Separates}
use Rattle.trop_cones.proofs.Cones.{valid_from_rows}
use Rattle.trop_duality.proofs.Barriers.{barrier, IsBarrier-barrier}
use Rattle.trop_duality.proofs.Polars.{IsBounded, bounded_from_true, true_from_bounded}

-- the first number below m that fails, or none
pub first_or_none : (P : ℕ → Type 0) → ((i : ℕ) → Decided (P i)) → (m : ℕ) →
    ((i : ℕ) → i < m → P i) ⊎ ((i : ℕ) × (i < m) × (P i → ⊥) × ((j : ℕ) → j < i → P j))
first_or_none P d zero = inl (λ i l. absurd (omega arith))
first_or_none P d (suc m) = ⊎_elim all (λ s. inr (s.0, omega (arith, s.1), s.2, s.3)) (first_or_none P d m)
  where
    all : ((i : ℕ) → i < m → P i) → ((i : ℕ) → i < suc m → P i)
        ⊎ ((i : ℕ) × (i < suc m) × (P i → ⊥) × ((j : ℕ) → j < i → P j))
    all h = ⊎_elim
        (λ p. inl (λ i l. ⊎_elim (λ q. h i q) (λ q. let e : m ≡ i = omega arith in subst P e p) (cases_lt i m)))
        (λ p. inr (m, omega arith, p, h))
        (d m)

module _ {V : Type 0} {R : Semiring V} (laws : SemiringLaws R) where
  -- quotients by g and by y, exchanged
  exchange : (a g h y : V) → g ≢ R.zero → R.times (R.times (R.times a (R.inverse g)) h) (R.times g (R.inverse y)) ≡
      R.times (R.times a (R.inverse y)) h
  exchange a g h y f =
      swap_middle R.times laws.times_assoc laws.times_comm (R.times a (R.inverse g)) h g (R.inverse y)
      ∙ ap₂ R.times (redo_times laws g a f) (laws.times_comm h (R.inverse y))
      ∙ sym (laws.times_assoc a (R.inverse y) h)

  cancel : (g y : V) → y ≢ R.zero → R.times y (R.times g (R.inverse y)) ≡ g
  cancel g y f = laws.times_comm y (R.times g (R.inverse y)) ∙ redo_times laws y g f

module _ {V : Type 0} {R : Semiring V} (laws : SemiringLaws R) (n : ℕ) (x : List V) (t : ℕ) (wide : length x ≡ n)
    (finite : entry R x t ≢ R.zero) where
  place_within : t < n
  place_within = ⊎_elim (λ l. l) (λ l. absurd (finite (get_or_past x t R.zero (omega arith)))) (cases_lt t n)

  -- the sides, read as those of a polar row
  pub as_polar : (b : List V) → length b ≡ n → entry R b t ≡ R.zero →
      polar_inequality R t (set b t R.one) ≡ record { left = set (bottom R n) t R.one; right = b }
  as_polar b l z =
      ap₂ (λ left right. record { left = left; right = right })
      (ap₂ (λ m a. set (bottom R m) t a) (length-set b t R.one ∙ l)
      (get_or-set_same b t R.one R.zero (omega (arith, place_within))))
      (set-set b t R.one R.zero ∙ ap (set b t) (sym z) ∙ set-get_or b t R.zero)

  module _ (rows : List (List V)) (b : List V) (is : IsBarrier R n rows x t b) where
    -- the right side with the one at t
    abbrev u : List V
    u = set b t R.one

    -- entry j of the multiple of g that has the entry t of x
    abbrev lifted : List V → ℕ → V
    lifted g j = R.times (R.times (entry R x t) (R.inverse (entry R g t))) (entry R g j)

    here : entry R b t ≡ R.zero
    here = (is.each t place_within).here refl

    u_here : entry R u t ≡ R.one
    u_here = get_or-set_same b t R.one R.zero (omega (arith, place_within, is.wide))

    u_elsewhere : (j : ℕ) → j ≢ t → entry R u j ≡ entry R b j
    u_elsewhere j f = get_or-set_other b t j R.one R.zero f

    product_here : (a : V) → R.times (entry R u t) a ≡ a
    product_here a = ap (λ c. R.times c a) u_here ∙ laws.one_neutral a

    -- a row that does not meet x at t has an entry above x once its entry t is at that of x
    above : (g : List V) → length g ≡ n → entry R g t ≢ R.zero → (Meets R x t g → ⊥) →
        (j : ℕ) × (j < n) × (Le R (lifted g j) (entry R x j) → ⊥)
    above g l f none = ⊎_elim
        (λ h. absurd (none (meets_from_below laws x g t f
        (λ i. subst (λ v. Le R v (entry R x i))
        (sym (entry-scaled laws (R.times (entry R x t) (R.inverse (entry R g t))) g i))
        (⊎_elim (λ m. h i m) (λ m. past i m) (cases_lt i n))))))
        (λ s. s)
        (all_or_some (λ j. Le R (lifted g j) (entry R x j)) (λ j. laws.discrete _ _) n)
      where
        past : (i : ℕ) → n ≤ i → Le R (lifted g i) (entry R x i)
        past i m = subst (λ v. Le R v (entry R x i))
            (sym (ap (R.times (R.times (entry R x t) (R.inverse (entry R g t)))) (get_or_past g i R.zero (omega arith))
            ∙ times_zero laws _)) (zero_below laws _)

    bounded_row : (g : List V) → length g ≡ n → Contains rows g → (Meets R x t g → ⊥) → IsBounded R t u g
    bounded_row g l c none = ⊎_elim
        (λ z. inl (product_here (entry R g t) ∙ z))
        (λ f. let s = above g l f none in inr (
          s.0,
          other s.0 f s.2,
          subst (λ v. Le R v (R.times (entry R u s.0) (entry R g s.0))) (sym (product_here (entry R g t)))
              (subst (λ v. Le R (entry R g t) (R.times v (entry R g s.0))) (sym (u_elsewhere s.0 (other s.0 f s.2)))
              (low s.0 s.1 f s.2)),
        ))
        (laws.discrete (entry R g t) R.zero)
      where
        other : (j : ℕ) → entry R g t ≢ R.zero → (Le R (lifted g j) (entry R x j) → ⊥) → j ≢ t
        other j f up e = up (subst (λ i. Le R (lifted g i) (entry R x i)) (sym e)
            (subst (λ v. Le R v (entry R x t)) (sym (redo_times laws (entry R g t) (entry R x t) f)) (le_refl laws _)))

        low : (j : ℕ) → j < n → entry R g t ≢ R.zero → (Le R (lifted g j) (entry R x j) → ⊥) →
            Le R (entry R g t) (R.times (entry R b j) (entry R g j))
        low j m f up = ⊎_elim
            (λ z. (is.each j m).high (other j f up) z g c
            (λ e. up (subst (λ v. Le R v (entry R x j))
            (sym (ap (R.times (R.times (entry R x t) (R.inverse (entry R g t)))) e ∙ times_zero laws _))
            (zero_below laws _))))
            (λ q. subst (λ v. Le R (entry R g t) (R.times v (entry R g j)))
            (sym ((is.each j m).finite (other j f up) q)) (tight q))
            (laws.discrete (entry R x j) R.zero)
          where
            below : Le R (entry R x j) (lifted g j)
            below = ⊎_elim (λ h. absurd (up h)) (λ h. h) (le_total laws (lifted g j) (entry R x j))

            next : Le R (entry R x j) (R.times R.delta (lifted g j))
            next = laws.delta_next _ _ below (λ e. up (subst (λ v. Le R v (entry R x j)) e (le_refl laws _)))

            regroup : R.times R.delta (lifted g j) ≡ R.times
                (R.times (R.times R.delta (entry R x t)) (R.inverse (entry R g t))) (entry R g j)
            regroup = sym (laws.times_assoc R.delta _ (entry R g j)) ∙ ap (λ v. R.times v (entry R g j))
                (sym (laws.times_assoc R.delta (entry R x t) (R.inverse (entry R g t))))

            tight : entry R x j ≢ R.zero → Le R (entry R g t)
                (R.times (R.times (R.times R.delta (entry R x t)) (R.inverse (entry R x j))) (entry R g j))
            tight q =
                subst (λ v. Le R v (R.times (R.times (R.times R.delta (entry R x t)) (R.inverse (entry R x j)))
                (entry R g j))) (cancel laws (entry R g t) (entry R x j) q)
                (subst (Le R (R.times (entry R x j) (R.times (entry R g t) (R.inverse (entry R x j)))))
                (exchange laws (R.times R.delta (entry R x t)) (entry R g t) (entry R g j) (entry R x j) f)
                (times_mono_left laws (R.times (entry R g t) (R.inverse (entry R x j))) _ _
                (subst (Le R (entry R x j)) regroup next)))

    -- it is true at each row
    barrier_valid : All (λ g. length g ≡ n) rows → (Any (Meets R x t) rows → ⊥) →
        All (IsTrueAt R (record { left = set (bottom R n) t R.one; right = b })) rows
    barrier_valid w unmet k d l = subst (λ p. IsTrueAt R p (get_or rows k d)) (as_polar b is.wide here)
        (true_from_bounded laws t u (get_or rows k d)
        (bounded_row (get_or rows k d) (w k d l) (Contains-get_or rows k d l)
        (λ m. unmet (k, get_or rows k d, l, get_or_default rows k (get_or rows k d) d l, m))))

    -- and false at x
    barrier_fails : IsTrueAt R (record { left = set (bottom R n) t R.one; right = b }) x → ⊥
    barrier_fails h = ⊎_elim
        (λ z. finite (sym (product_here (entry R x t)) ∙ z))
        (λ s. impossible s.0 s.1 (subst (λ v. Le R (entry R x t) (R.times v (entry R x s.0))) (u_elsewhere s.0 s.1)
        (subst (λ v. Le R v (R.times (entry R u s.0) (entry R x s.0))) (product_here (entry R x t)) s.2)))
        (bounded_from_true laws t u x (subst (λ p. IsTrueAt R p x) (sym (as_polar b is.wide here)) h))
      where
        impossible : (j : ℕ) → j ≢ t → Le R (entry R x t) (R.times (entry R b j) (entry R x j)) → ⊥
        impossible j f e = ⊎_elim
            (λ z. finite (below_zero laws _ (subst (Le R (entry R x t))
            (ap (R.times (entry R b j)) z ∙ times_zero laws _) e)))
            (λ q.
            let m : j < n = ⊎_elim (λ l. l) (λ l. absurd (q (get_or_past x j R.zero (omega arith)))) (cases_lt j n) in
            let product : R.times (entry R b j) (entry R x j) ≡ R.times R.delta (entry R x t) =
            ap (λ v. R.times v (entry R x j)) ((is.each j m).finite f q) ∙ redo_times laws (entry R x j)
            (R.times R.delta (entry R x t)) q in
            delta_moves laws (entry R x t) finite (le_antisym laws _ _ (delta_times laws (entry R x t))
            (subst (Le R (entry R x t)) product e)))
            (laws.discrete (entry R x j) R.zero)

    pub Separates-from_barrier : All (λ g. length g ≡ n) rows → IsFirstUnmet R rows x t →
        Separates R n rows x (record { left = set (bottom R n) t R.one; right = b })
    Separates-from_barrier w first = record {
      place = t;
      first = first;
      wide = is.wide;
      left = refl;
      right = here;
      valid = λ y c. valid_from_rows laws n (record { left = set (bottom R n) t R.one; right = b })
          (record { left = length-set (bottom R n) t R.one ∙ length-replicate n R.zero; right = is.wide }) rows w
          (barrier_valid w first.unmet) y c;
      fails = barrier_fails;
    }

module _ {V : Type 0} {R : Semiring V} (laws : SemiringLaws R) (n : ℕ) (rows : List (List V))
    (w : All (λ g. length g ≡ n) rows) (x : List V) (wide : length x ≡ n) where
  -- what is separated is no combination
  pub not_combination_from_separates : (p : Inequality V) → Separates R n rows x p → IsCombination R n rows x → ⊥
  not_combination_from_separates p s c = s.fails (s.valid x c)

  -- a vector is a combination, or some coordinate is the first that no row meets
  pub combination_or_unmet : (IsCombination R n rows x) ⊎ ((t : ℕ) × (t < n) × IsFirstUnmet R rows x t)
  combination_or_unmet = ⊎_elim
      (λ h. inl (IsCombination_from_met laws n rows x w wide
      (λ t f. ⊎_elim (λ l. h t l f) (λ l. absurd (f (get_or_past x t R.zero (omega arith)))) (cases_lt t n))))
      (λ s. inr (
        s.0,
        s.1,
        record {
          finite = λ z. s.2 (λ f. absurd (f z));
          unmet = λ a. s.2 (λ f. a);
          before = s.3;
        },
      ))
      (first_or_none (λ t. entry R x t ≢ R.zero → Any (Meets R x t) rows) each n)
    where
      each : (t : ℕ) → Decided (entry R x t ≢ R.zero → Any (Meets R x t) rows)
      each t = ⊎_elim
          (λ z. inl (λ f. absurd (f z)))
          (λ f. ⊎_elim (λ a. inl (λ f'. a)) (λ na. inr (λ h. na (h f)))
          (Any-decided (Meets R x t) (Meets-decided laws x t f) rows))
          (laws.discrete (entry R x t) R.zero)

  -- a vector is a combination, or an inequality separates it
  pub combination_or_separated : (IsCombination R n rows x) ⊎ ((p : Inequality V) × Separates R n rows x p)
  combination_or_separated = ⊎_elim
      (λ c. inl c)
      (λ s. inr (
        record { left = set (bottom R n) s.0 R.one; right = barrier laws n rows x s.0 },
        Separates-from_barrier laws n x s.0 wide s.2.finite rows (barrier laws n rows x s.0)
            (IsBarrier-barrier laws n rows x s.0) w s.2,
      ))
      combination_or_unmet
