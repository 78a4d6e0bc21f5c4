-- After one more inequality the extreme rows of a cone are the kept ones and the mixed rows that are fresh at some
-- coordinate.
-- Index: normal_form_unique, guarded-mixed, guarded-kept, kept_stays_extreme, fresh_is_extreme, extreme_is_fresh,
-- IsNarrowed, narrowed_canonical, narrowed_generates.
use Rattle.std.proofs.Common.{◌≡◌, ◌≢◌, ◌⊎◌, ◌<◌, ℕ, List, [], ◌∷◌, ◌++◌, length, get_or, inl, inr, ⊎_elim, sym, ap, ◌∙◌, subst, ap₂}
use Rattle.std.specs.Prelude.{All, AllPairs, Any, Contains, ◌↔◌}
use Rattle.std.proofs.lemmas.List.{get_or_default, length-map}
use Rattle.std.proofs.lemmas.List.Elements.{All-append, All-contains, Contains-append_left, Contains-append_right, Contains-append_cases, Contains-get_or}
use Rattle.trop_theory.specs.Semiring.{Semiring, SemiringLaws, Le}
use Rattle.trop_theory.specs.Vectors.{entry, scaled, joined, dot, Below}
use Rattle.trop_theory.specs.Normal.{IsNormal, Normalises}
use Rattle.trop_theory.specs.Inequalities.{Inequality, IsTrueAt, InGuard, IsIn}
use Rattle.trop_theory.specs.Combinations.{IsCombination}
use Rattle.trop_theory.specs.Extreme.{IsExtreme}
use Rattle.trop_theory.specs.Canonical.{RowBelow, IsCanonical}
use Rattle.trop_theory.specs.Steps.{mixed}
use Rattle.trop_theory.proofs.Truth.{HoldsOf, truth}
use Rattle.trop_theory.specs.Residual.{Meets}
use Rattle.trop_theory.proofs.Order.{le_trans, le-plus_left, le-plus_right, times_mono, redo_times, factor_finite, left_factor_finite}
use Rattle.trop_theory.proofs.Rows.{entry-joined, entry-scaled, scaled-scaled, scaled_one}
use Rattle.trop_theory.proofs.Combinations.{IsCombination-length, IsCombination-scaled}
use Rattle.trop_theory.proofs.Residual.{meets_from_below, below_from_meets}
use Rattle.trop_theory.proofs.Canonical.{IsExtreme-same, multiple_from_extreme, same_from_multiple}
use Rattle.trop_theory.proofs.SameCones.{IsCombination-contained}
use Rattle.trop_theory.proofs.Decided.{Meets-decided}
use Rattle.plain_lemmas.proofs.Lists.{Any-decided}
use Rattle.trop_theory.proofs.Generation.{canonical_generates, undo_normal}
use Rattle.trop_theory.proofs.Mixed.{length-mixed}
use Rattle.trop_theory.proofs.StepSound.{step_is_guard}
use Rattle.trop_theory.proofs.Narrower.{Stepped, stepped, IsExtreme-narrower}
use Rattle.trop_cones.specs.Minimal.{at_one, IsMinimalAt}
use Rattle.trop_cones.proofs.Minimal.{Below-scaled, from_one, from_one_itself, to_one, extreme_is_minimal, minimal_is_none_lower}
use Rattle.trop_guard.specs.Fresh.{IsLower, HasLowerWith, HasLower, IsFreshAt}

module _ {V : Type 0} {R : Semiring V} (laws : SemiringLaws R) (x : List V) (t : ℕ)
    (finite : entry R x t ≢ R.zero) where
  -- the factor that gives g the entry t of x
  abbrev lift : List V → V
  lift g = R.times (entry R x t) (R.inverse (entry R g t))

  -- where g is below x when both are scaled to the one at t, its multiple with the entry t of x is
  lifted_below : (g : List V) → Below R (at_one R t g) (at_one R t x) → Below R (scaled R (lift g) g) x
  lifted_below g below =
      subst (Below R (scaled R (lift g) g)) (from_one_itself laws t x finite)
      (subst (λ v. Below R v (scaled R (entry R x t) (at_one R t x))) (from_one laws t (entry R x t) g)
      (Below-scaled laws (entry R x t) (at_one R t g) (at_one R t x) below))

  finite_from_meets : (g : List V) → Meets R x t g → entry R g t ≢ R.zero
  finite_from_meets g m = factor_finite laws m.multiple (entry R g t) (entry R x t) m.meets finite

  -- and the other way round
  at_one_from_meets : (g : List V) → Meets R x t g → Below R (at_one R t g) (at_one R t x)
  at_one_from_meets g m =
      subst (λ v. Below R v (at_one R t x)) (to_one laws (entry R x t) (R.inverse (entry R g t)) g finite)
      (Below-scaled laws (R.inverse (entry R x t)) (scaled R (lift g) g) x
      (below_from_meets laws x g t (finite_from_meets g m) m))

  module _ (a b : V) (v w : List V) (l : length v ≡ length w)
      (h : IsLower R x t (joined R (scaled R a v) (scaled R b w))) where
    abbrev sum : List V
    sum = joined R (scaled R a v) (scaled R b w)

    abbrev factor : V
    factor = lift sum

    at : (i : ℕ) → entry R sum i ≡ R.plus (R.times a (entry R v i)) (R.times b (entry R w i))
    at i = entry-joined laws (scaled R a v) (scaled R b w)
        (length-map v (R.times a) ∙ l ∙ sym (length-map w (R.times b))) i ∙ ap₂ R.plus (entry-scaled laws a v i)
        (entry-scaled laws b w i)

    under : Below R (scaled R factor sum) x
    under = lifted_below sum h.below

    part_below : (d : V) (y : List V) → ((i : ℕ) → Le R (R.times d (entry R y i)) (entry R sum i)) →
        Below R (scaled R (R.times factor d) y) x
    part_below d y part i = le_trans laws _ _ _
        (subst (λ q. Le R q (entry R (scaled R factor sum) i))
        (sym (entry-scaled laws (R.times factor d) y i ∙ laws.times_assoc factor d (entry R y i)))
        (subst (Le R (R.times factor (R.times d (entry R y i)))) (sym (entry-scaled laws factor sum i))
        (times_mono laws factor _ _ (part i))))
        (under i)

    part_meets : (d : V) (y : List V) → R.times d (entry R y t) ≡ entry R sum t →
        R.times (R.times factor d) (entry R y t) ≡ entry R x t
    part_meets d y e = laws.times_assoc factor d (entry R y t) ∙ ap (R.times factor) e ∙ redo_times laws (entry R sum t)
        (entry R x t) h.finite

    -- where a sum of two multiples is lower, one of the two rows meets x
    one_meets : (Meets R x t v) ⊎ (Meets R x t w)
    one_meets = ⊎_elim
        (λ e. inl (record {
          multiple = R.times factor a;
          below = part_below a v (λ i. subst (Le R (R.times a (entry R v i))) (sym (at i)) (le-plus_left laws _ _));
          meets = part_meets a v (sym e ∙ sym (at t));
        }))
        (λ e. inr (record {
          multiple = R.times factor b;
          below = part_below b w (λ i. subst (Le R (R.times b (entry R w i))) (sym (at i)) (le-plus_right laws _ _));
          meets = part_meets b w (sym e ∙ sym (at t));
        }))
        (laws.selective (R.times a (entry R v t)) (R.times b (entry R w t)))

-- a vector has one normal form
pub normal_form_unique : {V : Type 0} {R : Semiring V} (laws : SemiringLaws R) (old x y : List V) → Normalises R old x →
    Normalises R old y → x ≡ y
normal_form_unique {V} {R} laws old x y hx hy =
    same_from_multiple laws 0 x y (R.times hx.factor (R.inverse hy.factor)) hx.normal hy.normal
    (hx.multiple ∙ ap (scaled R hx.factor) (sym (undo_normal laws old y hy)) ∙ scaled-scaled laws hx.factor
    (R.inverse hy.factor) y)

module _ {V : Type 0} {R : Semiring V} (laws : SemiringLaws R) (n : ℕ) (p : Inequality V) (inside : IsIn n p)
    (kept dropped : List (List V)) (kw : All (λ g. length g ≡ n) kept) (dw : All (λ g. length g ≡ n) dropped)
    (kt : All (IsTrueAt R p) kept) (df : All (λ w. IsTrueAt R p w → ⊥) dropped) where
  abbrev rows : List (List V)
  rows = kept ++ dropped

  -- the vectors of the cone at which the inequality is true
  abbrev guarded : List V → Type 0
  guarded = InGuard R (IsCombination R n rows) p

  wide : All (λ g. length g ≡ n) rows
  wide = All-append (λ g. length g ≡ n) kept dropped kw dw

  s : Stepped laws n p.left p.right rows
  s = stepped laws n p.left p.right rows

  truth_at : (x : List V) → length x ≡ n → HoldsOf R p.left p.right x ↔ IsTrueAt R p x
  truth_at x l = truth laws p.left p.right x (inside.left ∙ sym l) (inside.right ∙ sym l)

  kept_wide : (v : List V) → Contains kept v → length v ≡ n
  kept_wide v c = All-contains (λ g. length g ≡ n) kept v kw c

  dropped_wide : (w : List V) → Contains dropped w → length w ≡ n
  dropped_wide w c = All-contains (λ g. length g ≡ n) dropped w dw c

  kept_holds : (v : List V) → Contains kept v → HoldsOf R p.left p.right v
  kept_holds v c = (truth_at v (kept_wide v c)).1 (All-contains (IsTrueAt R p) kept v kt c)

  dropped_fails : (w : List V) → Contains dropped w → HoldsOf R p.left p.right w → ⊥
  dropped_fails w c h = All-contains (λ w. IsTrueAt R p w → ⊥) dropped w df c ((truth_at w (dropped_wide w c)).0 h)

  is_kept : (v : List V) → Contains rows v → HoldsOf R p.left p.right v → Contains kept v
  is_kept v c h = ⊎_elim (λ k. k) (λ d. absurd (dropped_fails v d h)) (Contains-append_cases kept dropped v c)

  is_dropped : (w : List V) → Contains rows w → (HoldsOf R p.left p.right w → ⊥) → Contains dropped w
  is_dropped w c h = ⊎_elim (λ k. absurd (h (kept_holds w k))) (λ d. d) (Contains-append_cases kept dropped w c)

  kept_in_step : (v : List V) → Contains kept v → Contains s.others v
  kept_in_step v c = s.step.kept v (Contains-append_left kept dropped v c) (kept_holds v c)

  mixed_in_step : (v w : List V) → Contains kept v → Contains dropped w → dot R p.right v ≢ R.zero →
      Contains s.others (mixed R p.left p.right v w)
  mixed_in_step v w cv cw f = s.step.mixes v w (Contains-append_left kept dropped v cv)
      (Contains-append_right kept dropped w cw) (kept_holds v cv) f (dropped_fails w cw)

  lengths : (v w : List V) → Contains kept v → Contains dropped w → length v ≡ length w
  lengths v w cv cw = kept_wide v cv ∙ sym (dropped_wide w cw)

  wide_step : All (λ g. length g ≡ n) s.others
  wide_step k d l = ⊎_elim
      (λ q. All-contains (λ g. length g ≡ n) rows _ wide q.0)
      (λ q. ap length q.7 ∙ length-mixed laws p.left p.right q.0 q.1
      (All-contains (λ g. length g ≡ n) rows _ wide q.2 ∙ sym (All-contains (λ g. length g ≡ n) rows _ wide q.3))
      ∙ All-contains (λ g. length g ≡ n) rows _ wide q.2)
      (s.parents (get_or s.others k d) (Contains-get_or s.others k d l))

  guard : (x : List V) → IsCombination R n s.others x ↔ (IsCombination R n rows x × HoldsOf R p.left p.right x)
  guard = step_is_guard laws n p.left p.right rows s.others wide wide_step s.step

  in_step : (x : List V) → guarded x ↔ IsCombination R n s.others x
  in_step x = (
    λ h. (guard x).1 (h.0, (truth_at x (IsCombination-length laws n rows x wide h.0)).1 h.1),
    λ c. let g = (guard x).0 c in (g.0, (truth_at x (IsCombination-length laws n rows x wide g.0)).0 g.1),
  )

  back : (x : List V) → IsCombination R n s.others x ↔ guarded x
  back x = ((in_step x).1, (in_step x).0)

  -- a mixed row is a vector of the smaller cone, and so is its normal form
  pub guarded-mixed : (v w x : List V) → Contains kept v → Contains dropped w → dot R p.right v ≢ R.zero →
      Normalises R (mixed R p.left p.right v w) x → guarded x
  guarded-mixed v w x cv cw f m = (in_step x).1 (subst (IsCombination R n s.others) (sym m.multiple)
      (IsCombination-scaled laws n s.others m.factor (mixed R p.left p.right v w)
      (IsCombination-contained laws n s.others (mixed R p.left p.right v w) wide_step (mixed_in_step v w cv cw f))))

  pub guarded-kept : (v : List V) → Contains kept v → guarded v
  guarded-kept v c = (
    IsCombination-contained laws n rows v wide (Contains-append_left kept dropped v c),
    All-contains (IsTrueAt R p) kept v kt c,
  )

  -- a kept row that is extreme stays extreme
  pub kept_stays_extreme : (v : List V) → Contains kept v → IsExtreme R (IsCombination R n rows) v →
      IsExtreme R guarded v
  kept_stays_extreme v c h = IsExtreme-narrower (IsCombination R n rows) guarded (λ y g. g.0) v (guarded-kept v c) h

  -- a vector of the smaller cone that is fresh at some coordinate is extreme
  pub fresh_is_extreme : (x : List V) (t : ℕ) → guarded x → IsFreshAt R p kept dropped x t → IsExtreme R guarded x
  fresh_is_extreme x t h f =
      IsExtreme-same (IsCombination R n s.others) guarded back x
      ((extreme_is_minimal laws n s.others wide_step x c).1 (
        t,
        (minimal_is_none_lower laws n s.others wide_step x t
            (IsCombination-length laws n rows x wide h.0) f.finite).1
            (λ a. none (a.0, a.1, a.2, a.3, record { finite = a.4.finite; below = a.4.below; strictly = a.4.strictly })),
      ))
    where
      c : IsCombination R n s.others x
      c = (in_step x).0 h

      no_kept : (g : List V) → IsLower R x t g → Contains kept g → ⊥
      no_kept g low k = f.unmet (
        k.0,
        g,
        k.1,
        k.2,
        meets_from_below laws x g t low.finite (lifted_below laws x t f.finite g low.below),
      )

      no_mixed : (v w : List V) → Contains kept v → Contains dropped w → dot R p.right v ≢ R.zero →
          IsLower R x t (mixed R p.left p.right v w) → ⊥
      no_mixed v w cv cw q low = ⊎_elim
          (λ m. f.unmet (cv.0, v, cv.1, cv.2, m))
          (λ m. f.none_lower (cw.0, w, cw.1, cw.2, (m, (cv.0, v, cv.1, cv.2, (q, low)))))
          (one_meets laws x t f.finite (dot R p.left w) (dot R p.right v) v w (lengths v w cv cw) low)

      none : Any (IsLower R x t) s.others → ⊥
      none a = ⊎_elim
          (λ q. no_kept a.1 a.4 (is_kept a.1 q.0 q.1))
          (λ q. no_mixed q.0 q.1 (is_kept q.0 q.2 q.4) (is_dropped q.1 q.3 q.6) q.5 (subst (IsLower R x t) q.7 a.4))
          (s.parents a.1 (a.0, a.2, a.3))

  -- an extreme vector of the smaller cone in normal form is a kept row, or fresh at some coordinate
  pub extreme_is_fresh : (x : List V) → All (IsNormal R) kept → IsNormal R x → IsExtreme R guarded x →
      (Contains kept x) ⊎ ((t : ℕ) × IsFreshAt R p kept dropped x t)
  extreme_is_fresh x normal nx ex = ⊎_elim
      (λ a. inl (subst (Contains kept) (sym (itself a.1 (a.0, a.2, a.3) a.4)) (a.0, a.2, a.3)))
      (λ none. inr (m.0, record { finite = m.1.finite; unmet = none; none_lower = no_lower }))
      (Any-decided (Meets R x m.0) (Meets-decided laws x m.0 m.1.finite) kept)
    where
      c : IsCombination R n s.others x
      c = (in_step x).0 ex.member

      m : (t : ℕ) × IsMinimalAt R s.others x t
      m = (extreme_is_minimal laws n s.others wide_step x c).0
          (IsExtreme-same guarded (IsCombination R n s.others) in_step x ex)

      itself : (v : List V) → Contains kept v → Meets R x m.0 v → x ≡ v
      itself v k meets =
          let e = m.1.minimal v (kept_in_step v k) (finite_from_meets laws x m.0 m.1.finite v meets)
          (at_one_from_meets laws x m.0 m.1.finite v meets) in
          same_from_multiple laws n x v (R.times (entry R x m.0) (R.inverse (entry R v m.0))) nx
          (All-contains (IsNormal R) kept v normal k)
          (sym (from_one_itself laws m.0 x m.1.finite) ∙ ap (scaled R (entry R x m.0)) (sym e)
          ∙ from_one laws m.0 (entry R x m.0) v)

      no_lower : HasLower R p kept dropped x m.0 → ⊥
      no_lower a =
          let b = a.4.1 in
          let k = mixed_in_step b.1 a.1 (b.0, b.2, b.3) (a.0, a.2, a.3) b.4.0 in
          (minimal_is_none_lower laws n s.others wide_step x m.0 (IsCombination-length laws n rows x wide ex.member.0)
          m.1.finite).0 m.1 (
            k.0,
            mixed R p.left p.right b.1 a.1,
            k.1,
            k.2,
            record { finite = b.4.1.finite; below = b.4.1.below; strictly = b.4.1.strictly },
          )

  -- what a list of kept rows and of extreme mixed rows has to have
  pub record IsNarrowed (found : List (List V)) : Type 0 where
    pub ascending : AllPairs (RowBelow R) found
    pub normal : All (IsNormal R) found
    pub extreme : All (IsExtreme R guarded) found
    pub stay : All (Contains found) kept
    pub mixes : (v w x : List V) → Contains kept v → Contains dropped w → dot R p.right v ≢ R.zero →
        Normalises R (mixed R p.left p.right v w) x → IsExtreme R guarded x → Contains found x

  -- it is the canonical list of the smaller cone
  pub narrowed_canonical : All (IsNormal R) kept → (found : List (List V)) → IsNarrowed found →
      IsCanonical R guarded found
  narrowed_canonical normal found h = record {
    ascending = h.ascending;
    normal = h.normal;
    extreme =
        h.extreme;
    complete = complete;
  }
    where
      from_row : (x : List V) → IsNormal R x → IsExtreme R guarded x → (g : List V) (c : V) → Contains s.others g →
          x ≡ scaled R c g → Contains found x
      from_row x nx ex g c k e = ⊎_elim
          (λ q.
          let v = is_kept g q.0 q.1 in
          subst (Contains found) (sym (same_from_multiple laws n x g c nx
          (All-contains (IsNormal R) kept g normal v) e)) (All-contains (Contains found) kept g h.stay v))
          (λ q. h.mixes q.0 q.1 x (is_kept q.0 q.2 q.4) (is_dropped q.1 q.3 q.6) q.5 (record {
            factor = c;
            finite = left_factor_finite laws c (entry R g nx.first) R.one
                (sym (entry-scaled laws c g nx.first) ∙ ap (λ y. entry R y nx.first) (sym e) ∙ nx.is_one)
                laws.one_finite;
            multiple = e ∙ ap (scaled R c) q.7;
            normal = nx;
          }) ex)
          (s.parents g k)

      complete : (x : List V) → IsNormal R x → IsExtreme R guarded x → Contains found x
      complete x nx ex =
          let a = multiple_from_extreme laws n s.others x wide_step
          (IsExtreme-same guarded (IsCombination R n s.others) in_step x ex) in
          from_row x nx ex a.1 a.4.0 (a.0, a.2, get_or_default s.others a.0 a.1 a.1 a.2 ∙ a.3) a.4.1

  -- and generates it
  pub narrowed_generates : (found : List (List V)) → IsCanonical R guarded found → (x : List V) →
      guarded x ↔ IsCombination R n found x
  narrowed_generates found h = canonical_generates laws n guarded s.others found wide_step in_step h
