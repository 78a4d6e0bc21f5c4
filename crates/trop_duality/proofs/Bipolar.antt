-- The bipolar theorem: a cone that some rows generate is the set of solutions of its external list.
-- S. Gaubert, R. Katz: The tropical analogue of polar cones (2009).
-- Index: Contains-map, external_valid, Solves-external, IsIn-external, polar_by_canonical, bipolar,
-- canonical_of_external, meet_by_external.
use Rattle.std.proofs.Common.{◌≡◌, ◌≢◌, ◌<◌, ℕ, zero, suc, List, length, map, set, get_or, ⊎_elim, sym, ap, ◌∙◌, arith, subst, inl}
use Rattle.std.specs.Prelude.{All, Contains, ◌↔◌}
use Rattle.std.proofs.lemmas.Bool.{cases_lt}
use Rattle.std.proofs.lemmas.List.{length-map, length-set, get_or-map, get_or_past}
use Rattle.std.proofs.lemmas.List.Elements.{All-nil, All-append, All-map, All-contains, Contains-append_left, Contains-append_right, Contains-get_or}
use Rattle.trop_theory.specs.Semiring.{Semiring, SemiringLaws}
use Rattle.trop_theory.specs.Vectors.{entry}
use Rattle.trop_theory.specs.Inequalities.{Inequality, IsTrueAt, Solves, IsIn, IsValidOn}
use Rattle.trop_theory.specs.Combinations.{IsCombination}
use Rattle.trop_theory.specs.Canonical.{IsCanonical}
use Rattle.trop_theory.proofs.Order.{factor_finite}
use Rattle.trop_theory.proofs.Combinations.{IsCombination-length}
use Rattle.trop_theory.proofs.Canonical.{IsCanonical-same}
use Rattle.trop_theory.proofs.Generation.{canonical_generates}
use Rattle.trop_theory.proofs.StepLists.{Contains-chosen, All-chosen}
use Rattle.trop_cones.specs.Sets.{InMeet}
use Rattle.trop_duality.specs.Polars.{polar_inequality, polar_system, InPolar}
use Rattle.trop_duality.specs.External.{bound_of, AreBounds, IsExternalUpTo, IsExternal}
use Rattle.trop_duality.specs.Separation.{Separates}
use Rattle.trop_cones.proofs.Cones.{IsCombination-in, truth_is_cone}
use Rattle.trop_duality.proofs.Polars.{IsIn-polar, IsIn-polar_system, polar_is_cone, polar_swap, polar_unscale, polar_system_is_polar, true_from_bounded}
use Rattle.trop_cones.proofs.Generated.{Generated, solutions_generated}
use Rattle.trop_duality.proofs.Separation.{combination_or_separated, as_polar}

pub Contains-map : {X Y : Type 0} (f : X → Y) (xs : List X) (x : X) → Contains xs x → Contains (map f xs) (f x)
Contains-map f xs x h = (h.0, omega (arith, h.1, length-map xs f), get_or-map f xs h.0 x (f x) h.1 ∙ ap f h.2)

module _ {V : Type 0} {R : Semiring V} (laws : SemiringLaws R) (n : ℕ) (cone : List V → Type 0)
    (lengths : (x : List V) → cone x → length x ≡ n) where
  -- a vector of the polar gives a bound that is valid on the cone
  bound_valid : (i : ℕ) (u : List V) → InPolar R n cone i u → IsValidOn R cone (bound_of R i u)
  bound_valid i u h = ((polar_is_cone laws n cone lengths i).multiples (R.inverse (entry R u i)) u h).valid

  bounds_valid : (i : ℕ) (bounds : List (Inequality V)) → AreBounds R n cone i bounds → All (IsValidOn R cone) bounds
  bounds_valid i bounds h =
      subst (All (IsValidOn R cone)) (sym h.read)
      (All-map (IsValidOn R cone) (bound_of R i) h.finite
      (λ k d l. bound_valid i _ (All-chosen (λ u. entry R u i ≢ R.zero)
      (InPolar R n cone i) h.polar h.finite h.chosen (λ j e m. (h.canonical.extreme j e m).member) k d l)))

  -- each inequality of the external list is valid on the cone
  pub external_valid : (m : ℕ) (system : List (Inequality V)) → IsExternalUpTo R n cone m system →
      All (IsValidOn R cone) system
  external_valid zero system h = subst (All (IsValidOn R cone)) (sym h) (All-nil (IsValidOn R cone))
  external_valid (suc m) system h =
      subst (All (IsValidOn R cone)) (sym h.2)
      (All-append (IsValidOn R cone) h.0 h.1 (external_valid m h.0 h.3) (bounds_valid m h.1 h.4))

  pub Solves-external : (system : List (Inequality V)) → IsExternal R n cone system → (x : List V) → cone x →
      Solves R n system x
  Solves-external system h x c = record { wide = lengths x c; holds = λ k d l. external_valid n system h k d l x c }

  bounds_wide : (i : ℕ) (bounds : List (Inequality V)) → AreBounds R n cone i bounds → All (IsIn n) bounds
  bounds_wide i bounds h =
      subst (All (IsIn n)) (sym h.read)
      (All-map (IsIn n) (bound_of R i) h.finite (λ k d l.
      IsIn-polar R n i _ (length-map (get_or h.finite k d) (R.times (R.inverse (entry R (get_or h.finite k d) i)))
      ∙ All-chosen (λ u. entry R u i ≢ R.zero) (λ u. length u ≡ n) h.polar h.finite h.chosen
      (λ j e m. (h.canonical.extreme j e m).member.wide) k d l)))

  external_wide_up_to : (m : ℕ) (system : List (Inequality V)) → IsExternalUpTo R n cone m system → All (IsIn n) system
  external_wide_up_to zero system h = subst (All (IsIn n)) (sym h) (All-nil (IsIn n))
  external_wide_up_to (suc m) system h = subst (All (IsIn n)) (sym h.2)
      (All-append (IsIn n) h.0 h.1 (external_wide_up_to m h.0 h.3) (bounds_wide m h.1 h.4))

  -- its inequalities have n coordinates
  pub IsIn-external : (system : List (Inequality V)) → IsExternal R n cone system → All (IsIn n) system
  IsIn-external system h = external_wide_up_to n system h

  -- the bounds of one coordinate in the list
  record HasBounds (i : ℕ) (system : List (Inequality V)) : Type 0 where
    bounds : List (Inequality V)
    are : AreBounds R n cone i bounds
    within : (p : Inequality V) → Contains bounds p → Contains system p

  bounds_of : (m i : ℕ) (system : List (Inequality V)) → i < m → IsExternalUpTo R n cone m system → HasBounds i system
  bounds_of zero i system l h = absurd (omega arith)
  bounds_of (suc m) i system l h = ⊎_elim
      (λ q.
      let r = bounds_of m i h.0 q h.3 in
      record {
        bounds = r.bounds;
        are = r.are;
        within = λ p c. subst (λ s. Contains s p) (sym h.2) (Contains-append_left h.0 h.1 p (r.within p c));
      })
      (λ q.
      let e : m ≡ i = omega arith in
      record {
        bounds = h.1;
        are = subst (λ j. AreBounds R n cone j h.1) e h.4;
        within = λ p c. subst (λ s. Contains s p) (sym h.2) (Contains-append_right h.0 h.1 p c);
      })
      (cases_lt i m)

  -- at a solution of the bounds of a coordinate each inequality of its polar's canonical list is true
  polar_row_true : (i : ℕ) (bounds : List (Inequality V)) (x : List V) → length x ≡ n →
      (h : AreBounds R n cone i bounds) → All (λ p. IsTrueAt R p x) bounds →
      All (λ u. IsTrueAt R (polar_inequality R i u) x) h.polar
  polar_row_true i bounds x wide h holds k d l = ⊎_elim
      (λ z. true_from_bounded laws i u x (inl (ap (λ a. R.times a (entry R x i)) z ∙ laws.zero_absorbs (entry R x i))))
      (λ f. polar_unscale laws i (R.inverse (entry R u i)) u x
      (factor_finite laws (entry R u i) (R.inverse (entry R u i)) R.one
      (laws.invertible (entry R u i) f) laws.one_finite) ((h.canonical.extreme k d l).member.wide ∙ sym wide)
      (All-contains (λ p. IsTrueAt R p x) bounds (bound_of R i u) holds
      (subst (λ s. Contains s (bound_of R i u)) (sym h.read)
      (Contains-map (bound_of R i) h.finite u (Contains-chosen (λ v. entry R v i ≢ R.zero) h.polar h.finite h.chosen u
      (Contains-get_or h.polar k d l) f)))))
      (laws.discrete (entry R u i) R.zero)
    where
      u : List V
      u = get_or h.polar k d

module _ {V : Type 0} {R : Semiring V} (laws : SemiringLaws R) (n : ℕ) (rows : List (List V))
    (w : All (λ g. length g ≡ n) rows) where
  -- the canonical list of a polar of a generated cone generates the polar
  pub polar_by_canonical : (i : ℕ) (polar : List (List V)) →
      IsCanonical R (InPolar R n (IsCombination R n rows) i) polar → (u : List V) →
      InPolar R n (IsCombination R n rows) i u ↔ IsCombination R n polar u
  polar_by_canonical i polar canonical =
      let r : Generated laws n (Solves R n (polar_system R i rows)) =
      solutions_generated laws n (polar_system R i rows) (IsIn-polar_system laws n i rows w) in
      canonical_generates laws n (InPolar R n (IsCombination R n rows) i) r.rows polar r.wide
      (λ u. (
        λ h. (r.same u).0 ((polar_system_is_polar laws n i rows w u).1 h),
        λ c. (polar_system_is_polar laws n i rows w u).0 ((r.same u).1 c),
      ))
      canonical

  -- the solutions of the bounds of coordinate i satisfy each inequality of the i-th polar
  polar_true : (i : ℕ) (bounds : List (Inequality V)) (x : List V) → length x ≡ n →
      AreBounds R n (IsCombination R n rows) i bounds → All (λ p. IsTrueAt R p x) bounds → (u : List V) →
      InPolar R n (IsCombination R n rows) i u → IsTrueAt R (polar_inequality R i u) x
  polar_true i bounds x wide h holds u p =
      let cone = truth_is_cone laws n (polar_inequality R i x) (IsIn-polar R n i x wide) in
      let at : All (λ v. (length v ≡ n) × IsTrueAt R (polar_inequality R i x) v) h.polar =
      λ k d l. (
        (h.canonical.extreme k d l).member.wide,
        polar_swap laws i _ x (polar_row_true laws n (IsCombination R n rows)
            (λ y c. IsCombination-length laws n rows y w c) i bounds x wide h holds k d l),
      ) in
      polar_swap laws i x u (IsCombination-in laws n (λ v. (length v ≡ n) × IsTrueAt R (polar_inequality R i x) v)
      cone h.polar u at ((polar_by_canonical i h.polar h.canonical u).0 p)).1

  -- what separates comes from a vector of the polar at its place
  module _ (x : List V) (wide : length x ≡ n) (p : Inequality V) (sep : Separates R n rows x p) where
    abbrev u : List V
    u = set p.right sep.place R.one

    place_below : sep.place < n
    place_below = ⊎_elim (λ l. l) (λ l. absurd (sep.first.finite (get_or_past x sep.place R.zero (omega arith))))
        (cases_lt sep.place n)

    polar_inequality-is : polar_inequality R sep.place u ≡ p
    polar_inequality-is =
        as_polar laws n x sep.place wide sep.first.finite p.right sep.wide sep.right
        ∙ ap (λ left. record { left = left; right = p.right }) (sym sep.left)

    InPolar-separating : InPolar R n (IsCombination R n rows) sep.place u
    InPolar-separating = record {
      wide = length-set p.right sep.place R.one ∙ sep.wide;
      valid = λ y c. subst (λ q. IsTrueAt R q y) (sym polar_inequality-is) (sep.valid y c);
    }

    -- so no solution of the external list is separated
    no_separation : (system : List (Inequality V)) → IsExternal R n (IsCombination R n rows) system →
        All (λ q. IsTrueAt R q x) system → ⊥
    no_separation system h holds =
        let b = bounds_of laws n (IsCombination R n rows) (λ y c. IsCombination-length laws n rows y w c) n sep.place
        system place_below h in
        sep.fails (subst (λ q. IsTrueAt R q x) polar_inequality-is
        (polar_true sep.place b.bounds x wide b.are
        (λ k d m. All-contains (λ q. IsTrueAt R q x) system (get_or b.bounds k d) holds
        (b.within (get_or b.bounds k d) (Contains-get_or b.bounds k d m))) u InPolar-separating))

  -- the solutions of the external list of a generated cone are the cone
  pub bipolar : (system : List (Inequality V)) → IsExternal R n (IsCombination R n rows) system → (x : List V) →
      Solves R n system x ↔ IsCombination R n rows x
  bipolar system h x = (
    λ s. ⊎_elim (λ c. c) (λ q. absurd (no_separation x s.wide q.0 q.1 system h s.holds))
        (combination_or_separated laws n rows w x s.wide),
    λ c. Solves-external laws n (IsCombination R n rows) (λ y c. IsCombination-length laws n rows y w c) system h x c,
  )

  -- the canonical list of the solutions of the external list is that of the cone
  pub canonical_of_external : (system : List (Inequality V)) (others : List (List V)) →
      IsExternal R n (IsCombination R n rows) system →
      IsCanonical R (Solves R n system) others ↔ IsCanonical R (IsCombination R n rows) others
  canonical_of_external system others h = (
    λ c. IsCanonical-same (Solves R n system) (IsCombination R n rows) (bipolar system h) others c,
    λ c. IsCanonical-same (IsCombination R n rows) (Solves R n system)
        (λ x. ((bipolar system h x).1, (bipolar system h x).0)) others c,
  )

module _ {V : Type 0} {R : Semiring V} (laws : SemiringLaws R) (n : ℕ) where
  -- the meet with a generated cone is the part that solves its external list
  pub meet_by_external : (cone : List V → Type 0) (rows : List (List V)) (system : List (Inequality V)) →
      All (λ g. length g ≡ n) rows → IsExternal R n (IsCombination R n rows) system → (x : List V) →
      InMeet cone (IsCombination R n rows) x ↔ InMeet cone (Solves R n system) x
  meet_by_external cone rows system w h x = (
    λ m. (m.0, (bipolar laws n rows w system h x).1 m.1),
    λ m. (m.0, (bipolar laws n rows w system h x).0 m.1),
  )
