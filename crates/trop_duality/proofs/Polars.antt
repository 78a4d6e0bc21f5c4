-- The inequality of a polar row and a vector stand in each other's place, so the polar system of rows has the polar of
-- their combinations as its solutions.
-- Index: All-from_map, IsBounded, IsIn-polar, bounded_from_true, true_from_bounded, polar_swap, polar_unscale,
-- polar_is_cone, IsIn-polar_system, polar_system_is_polar, IsOverLimit-same, polar_over_is_over, polar_system_first,
-- polar_over_is_first_over, bound_of-is.
use Rattle.std.proofs.Common.{◌≡◌, ◌≢◌, ◌⊎◌, ◌<◌, ℕ, List, length, map, take, set, inl, inr, ⊎_elim, sym, ap, ◌∙◌, arith, subst, refl, ap₂}
use Rattle.std.specs.Prelude.{All, ◌↔◌}
use Rattle.std.proofs.lemmas.Bool.{cases_lt, cases_eq}
use Rattle.std.proofs.lemmas.List.{length-map, length-replicate, length-set, get_or-set_same, get_or-set_other, set_past, get_or_past, get_or-map, take-map}
use Rattle.std.proofs.lemmas.List.Elements.{All-map, All-take}
use Rattle.trop_theory.specs.Semiring.{Semiring, SemiringLaws, Le}
use Rattle.trop_theory.specs.Vectors.{entry, scaled, bottom}
use Rattle.trop_theory.specs.Combinations.{IsCombination}
use Rattle.trop_theory.specs.Inequalities.{IsTrueAt, Solves, IsIn}
use Rattle.trop_theory.specs.Canonical.{IsOverLimit}
use Rattle.trop_theory.proofs.Order.{zero_below, below_zero, times_zero}
use Rattle.trop_theory.proofs.Rows.{entry-bottom, entry-scaled, length-joined, scaled-scaled, scaled_one}
use Rattle.trop_theory.proofs.Residual.{IsCombination-at}
use Rattle.trop_theory.proofs.Canonical.{IsExtreme-same}
use Rattle.trop_cones.specs.Cones.{IsCone}
use Rattle.trop_duality.specs.Polars.{polar_inequality, polar_system, InPolar}
use Rattle.trop_duality.specs.External.{bound_of}
use Rattle.trop_duality.specs.PolarStops.{IsPolarOver}
use Rattle.trop_cones.proofs.Cones.{truth_is_cone, valid_from_rows}

pub All-from_map : {X Y : Type 0} (P : Y → Type 0) (f : X → Y) (xs : List X) → All P (map f xs) → All (λ x. P (f x)) xs
All-from_map P f xs h k d l = subst P (get_or-map f xs k d (f d) l) (h k (f d) (omega (arith, length-map xs f)))

module _ {V : Type 0} (R : Semiring V) where
  -- the term of u at i is the zero, or it is at most one of the other terms
  abbrev pub IsBounded : ℕ → List V → List V → Type 0
  IsBounded i u x = (R.times (entry R u i) (entry R x i) ≡ R.zero)
      ⊎ ((j : ℕ) × (j ≢ i) × Le R (R.times (entry R u i) (entry R x i)) (R.times (entry R u j) (entry R x j)))

  left_here : (i : ℕ) (u : List V) → entry R (polar_inequality R i u).left i ≡ entry R u i
  left_here i u = ⊎_elim
      (λ l. get_or-set_same (bottom R (length u)) i (entry R u i) R.zero
      (omega (arith, length-replicate (length u) R.zero)))
      (λ l. ap (λ x. entry R x i) (set_past (bottom R (length u)) i (entry R u i)
      (omega (arith, length-replicate (length u) R.zero))) ∙ entry-bottom R (length u) i
      ∙ sym (get_or_past u i R.zero l))
      (cases_lt i (length u))

  left_elsewhere : (i j : ℕ) (u : List V) → j ≢ i → entry R (polar_inequality R i u).left j ≡ R.zero
  left_elsewhere i j u f = get_or-set_other (bottom R (length u)) i j (entry R u i) R.zero f
      ∙ entry-bottom R (length u) j

  right_here : (i : ℕ) (u : List V) → entry R (polar_inequality R i u).right i ≡ R.zero
  right_here i u = ⊎_elim
      (λ l. get_or-set_same u i R.zero R.zero l)
      (λ l. ap (λ x. entry R x i) (set_past u i R.zero l) ∙ get_or_past u i R.zero l)
      (cases_lt i (length u))

  right_elsewhere : (i j : ℕ) (u : List V) → j ≢ i → entry R (polar_inequality R i u).right j ≡ entry R u j
  right_elsewhere i j u f = get_or-set_other u i j R.zero R.zero f

  pub IsIn-polar : (n i : ℕ) (u : List V) → length u ≡ n → IsIn n (polar_inequality R i u)
  IsIn-polar n i u l = record {
    left = length-set (bottom R (length u)) i (entry R u i) ∙ length-replicate (length u) R.zero ∙ l;
    right = length-set u i R.zero ∙ l;
  }

module _ {V : Type 0} {R : Semiring V} (laws : SemiringLaws R) where
  pub bounded_from_true : (i : ℕ) (u x : List V) → IsTrueAt R (polar_inequality R i u) x → IsBounded R i u x
  bounded_from_true i u x h = ⊎_elim
      (λ l. let r = h i l in found r.0 r.2)
      (λ l. inl (ap (R.times (entry R u i)) (get_or_past x i R.zero l) ∙ times_zero laws (entry R u i)))
      (cases_lt i (length x))
    where
      found : (j : ℕ) → Le R (R.times (entry R (polar_inequality R i u).left i) (entry R x i))
          (R.times (entry R (polar_inequality R i u).right j) (entry R x j)) → IsBounded R i u x
      found j e =
          let low : Le R (R.times (entry R u i) (entry R x i))
          (R.times (entry R (polar_inequality R i u).right j) (entry R x j)) =
          subst (λ a. Le R (R.times a (entry R x i)) (R.times (entry R (polar_inequality R i u).right j) (entry R x j)))
          (left_here R i u) e in
          ⊎_elim
          (λ q. inl (below_zero laws _ (subst (λ a. Le R (R.times (entry R u i) (entry R x i)) a)
          (ap (λ k. R.times (entry R (polar_inequality R i u).right k) (entry R x j)) q
          ∙ ap (λ a. R.times a (entry R x j)) (right_here R i u) ∙ laws.zero_absorbs (entry R x j)) low)))
          (λ f. inr (
            j,
            f,
            subst (λ a. Le R (R.times (entry R u i) (entry R x i)) (R.times a (entry R x j)))
                (right_elsewhere R i j u f) low,
          ))
          (cases_eq j i)

  pub true_from_bounded : (i : ℕ) (u x : List V) → IsBounded R i u x → IsTrueAt R (polar_inequality R i u) x
  true_from_bounded i u x h k l = ⊎_elim (λ q. ⊎_elim (λ z. nothing k l (at q ∙ z)) (λ b. some q b.0 b.1 b.2) h)
      (λ f. nothing k l (ap (λ a. R.times a (entry R x k)) (left_elsewhere R i k u f)
      ∙ laws.zero_absorbs (entry R x k))) (cases_eq k i)
    where
      goal : ℕ → Type 0
      goal j = Le R (R.times (entry R (polar_inequality R i u).left k) (entry R x k))
          (R.times (entry R (polar_inequality R i u).right j) (entry R x j))

      nothing : (j : ℕ) → j < length x → R.times (entry R (polar_inequality R i u).left k) (entry R x k) ≡ R.zero →
          (j : ℕ) × (j < length x) × goal j
      nothing j m z = (
        j,
        m,
        subst (λ a. Le R a (R.times (entry R (polar_inequality R i u).right j) (entry R x j)))
            (sym z) (zero_below laws _),
      )

      at : k ≡ i → R.times (entry R (polar_inequality R i u).left k) (entry R x k) ≡ R.times (entry R u i) (entry R x i)
      at q = ap (λ m. R.times (entry R (polar_inequality R i u).left m) (entry R x m)) q
          ∙ ap (λ a. R.times a (entry R x i)) (left_here R i u)

      some : k ≡ i → (j : ℕ) → j ≢ i → Le R (R.times (entry R u i) (entry R x i)) (R.times (entry R u j) (entry R x j))
          → (j : ℕ) × (j < length x) × goal j
      some q j f e = ⊎_elim
          (λ m. (
            j,
            m,
            subst (λ a. Le R a (R.times (entry R (polar_inequality R i u).right j) (entry R x j)))
                (sym (at q)) (subst (λ a. Le R (R.times (entry R u i) (entry R x i)) (R.times a (entry R x j)))
                (sym (right_elsewhere R i j u f)) e),
          ))
          (λ m. nothing k l (at q ∙ below_zero laws _
          (subst (Le R (R.times (entry R u i) (entry R x i)))
          (ap (R.times (entry R u j)) (get_or_past x j R.zero m) ∙ times_zero laws (entry R u j)) e)))
          (cases_lt j (length x))

  bounded_swap : (i : ℕ) (u x : List V) → IsBounded R i u x → IsBounded R i x u
  bounded_swap i u x h = ⊎_elim
      (λ z. inl (laws.times_comm (entry R x i) (entry R u i) ∙ z))
      (λ b. inr (
        b.0,
        b.1,
        subst (λ a. Le R a (R.times (entry R x b.0) (entry R u b.0)))
            (laws.times_comm (entry R u i) (entry R x i))
            (subst (Le R (R.times (entry R u i) (entry R x i))) (laws.times_comm (entry R u b.0) (entry R x b.0)) b.2),
      ))
      h

  -- the inequality of u at x is that of x at u
  pub polar_swap : (i : ℕ) (u x : List V) → IsTrueAt R (polar_inequality R i u) x →
      IsTrueAt R (polar_inequality R i x) u
  polar_swap i u x h = true_from_bounded i x u (bounded_swap i u x (bounded_from_true i u x h))

  -- a finite multiple of u gives the same
  pub polar_unscale : (i : ℕ) (c : V) (u x : List V) → c ≢ R.zero → length u ≡ length x →
      IsTrueAt R (polar_inequality R i (scaled R c u)) x → IsTrueAt R (polar_inequality R i u) x
  polar_unscale i c u x f l h =
      let cone = truth_is_cone laws (length x) (polar_inequality R i x) (IsIn-polar R (length x) i x refl) in
      let back : scaled R (R.inverse c) (scaled R c u) ≡ u =
      scaled-scaled laws (R.inverse c) c u ∙ ap (λ a. scaled R a u)
      (laws.times_comm (R.inverse c) c ∙ laws.invertible c f) ∙ scaled_one laws u in
      polar_swap i x u (subst (IsTrueAt R (polar_inequality R i x)) back
      (cone.multiples (R.inverse c) (scaled R c u)
      (length-map u (R.times c) ∙ l, polar_swap i (scaled R c u) x h)).1)

module _ {V : Type 0} {R : Semiring V} (laws : SemiringLaws R) (n : ℕ) where
  pub polar_is_cone : (cone : List V → Type 0) → ((x : List V) → cone x → length x ≡ n) → (i : ℕ) →
      IsCone R n (InPolar R n cone i)
  polar_is_cone cone lengths i = record {
    wide = λ u h. h.wide;
    bottom = record { wide = length-replicate n R.zero; valid = λ x c. polar_swap laws i x _ (at x c).bottom.1 };
    sums = λ u v h k. record {
      wide = length-joined R u v n h.wide k.wide;
      valid =
          λ x c. polar_swap laws i x _ ((at x c).sums u v (h.wide, polar_swap laws i u x (h.valid x c))
          (k.wide, polar_swap laws i v x (k.valid x c))).1;
    };
    multiples = λ c u h. record {
      wide = length-map u (R.times c) ∙ h.wide;
      valid =
          λ x m. polar_swap laws i x _ ((at x m).multiples c u (h.wide, polar_swap laws i u x (h.valid x m))).1;
    };
  }
    where
      at : (x : List V) → cone x → IsCone R n (λ u. (length u ≡ n) × IsTrueAt R (polar_inequality R i x) u)
      at x c = truth_is_cone laws n (polar_inequality R i x) (IsIn-polar R n i x (lengths x c))

  pub IsIn-polar_system : (i : ℕ) (rows : List (List V)) → All (λ g. length g ≡ n) rows →
      All (IsIn n) (polar_system R i rows)
  IsIn-polar_system i rows w = All-map (IsIn n) (polar_inequality R i) rows (λ k d l. IsIn-polar R n i _ (w k d l))

  -- the solutions of the polar system of rows are the polar of their combinations
  pub polar_system_is_polar : (i : ℕ) (rows : List (List V)) → All (λ g. length g ≡ n) rows → (u : List V) →
      Solves R n (polar_system R i rows) u ↔ InPolar R n (IsCombination R n rows) i u
  polar_system_is_polar i rows w u = (
    λ s. record {
      wide = s.wide;
      valid = valid_from_rows laws n (polar_inequality R i u) (IsIn-polar R n i u s.wide) rows w
          (λ k d l. polar_swap laws i _ u (All-from_map (λ p. IsTrueAt R p u)
          (polar_inequality R i) rows s.holds k d l));
    },
    λ h. record {
      wide = h.wide;
      holds = All-map (λ p. IsTrueAt R p u) (polar_inequality R i) rows
          (λ k d l. polar_swap laws i u _ (h.valid _ (IsCombination-at laws n rows k d w l)));
    },
  )

  pub IsOverLimit-same : (C D : List V → Type 0) → ((x : List V) → C x ↔ D x) → IsOverLimit R C → IsOverLimit R D
  IsOverLimit-same C D e h = record {
    rows = h.rows;
    ascending = h.ascending;
    normal = h.normal;
    extreme = λ k d l. IsExtreme-same C D e _ (h.extreme k d l);
    many = h.many;
  }

  -- the polar is over the limit where the solutions of the polar system are
  pub polar_over_is_over : (i k : ℕ) (rows : List (List V)) → All (λ g. length g ≡ n) rows →
      IsPolarOver R n rows i k ↔ IsOverLimit R (Solves R n (polar_system R i (take k rows)))
  polar_over_is_over i k rows w =
      let same = polar_system_is_polar i (take k rows) (All-take (λ g. length g ≡ n) k rows w) in (
        λ h. IsOverLimit-same (InPolar R n (IsCombination R n (take k rows)) i)
            (Solves R n (polar_system R i (take k rows))) (λ u. ((same u).1, (same u).0)) h,
        λ h. IsOverLimit-same (Solves R n (polar_system R i (take k rows)))
            (InPolar R n (IsCombination R n (take k rows)) i) same h,
      )

  -- the first k inequalities of the polar system are those of the first k rows
  pub polar_system_first : (i k : ℕ) (rows : List (List V)) → All (λ g. length g ≡ n) rows → (u : List V) →
      Solves R n (take k (polar_system R i rows)) u ↔ InPolar R n (IsCombination R n (take k rows)) i u
  polar_system_first i k rows w u = subst (λ s. Solves R n s u ↔ InPolar R n (IsCombination R n (take k rows)) i u)
      (sym (take-map (polar_inequality R i) k rows))
      (polar_system_is_polar i (take k rows) (All-take (λ g. length g ≡ n) k rows w) u)

  pub polar_over_is_first_over : (i k : ℕ) (rows : List (List V)) → All (λ g. length g ≡ n) rows →
      IsPolarOver R n rows i k ↔ IsOverLimit R (Solves R n (take k (polar_system R i rows)))
  polar_over_is_first_over i k rows w = subst (λ s. IsPolarOver R n rows i k ↔ IsOverLimit R (Solves R n s))
      (sym (take-map (polar_inequality R i) k rows)) (polar_over_is_over i k rows w)

module _ {V : Type 0} {R : Semiring V} (laws : SemiringLaws R) where
  -- the sides of a bound, entry by entry
  pub bound_of-is : (i : ℕ) (u : List V) → entry R u i ≢ R.zero →
      bound_of R i u ≡ record {
        left = set (bottom R (length u)) i R.one;
        right =
            set (scaled R (R.inverse (entry R u i)) u) i R.zero;
      }
  bound_of-is i u f =
      ap₂ (λ m a. record { left = set (bottom R m) i a; right = set (scaled R (R.inverse (entry R u i)) u) i R.zero })
      (length-map u (R.times (R.inverse (entry R u i))))
      (entry-scaled laws (R.inverse (entry R u i)) u i ∙ laws.times_comm (R.inverse (entry R u i)) (entry R u i)
      ∙ laws.invertible (entry R u i) f)
