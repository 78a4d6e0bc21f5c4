-- The extreme rows of a list are those that are minimal at some coordinate, all rows scaled to the one there.
-- Butkovic, Schneider, Sergeev: Generators, extremals and bases of max cones (2007).
-- Index: Below-scaled, below_both, undo_inverse, from_one, from_one_itself, to_one, type_is_minimal, IsLower,
-- minimal_is_none_lower, extreme_is_minimal, generated_extreme_has_type, canonical_is_minimal, below_by_products.
use Rattle.std.proofs.Common.{◌≡◌, ◌≢◌, ◌<◌, ℕ, zero, suc, List, [], ◌∷◌, length, get_or, inl, inr, ⊎_elim, sym, ap, ◌∙◌, refl, arith, subst}
use Rattle.std.specs.Prelude.{All, Any, Contains, ◌↔◌}
use Rattle.std.proofs.lemmas.Bool.{cases_lt}
use Rattle.std.proofs.lemmas.List.{length-map, get_or_past, get_or_default}
use Rattle.std.proofs.lemmas.List.Elements.{All-nil, All-cons, All-contains}
use Rattle.trop_theory.specs.Semiring.{Semiring, SemiringLaws, Le}
use Rattle.trop_theory.specs.Vectors.{entry, scaled, Below}
use Rattle.trop_theory.specs.Normal.{IsNormal}
use Rattle.trop_theory.specs.Combinations.{IsCombination}
use Rattle.trop_theory.specs.Extreme.{IsExtreme, IsType}
use Rattle.trop_theory.specs.Canonical.{IsCanonical}
use Rattle.trop_theory.specs.Residual.{Meets}
use Rattle.trop_theory.proofs.Order.{le-plus_left, le-plus_right, le_refl, le_antisym, times_mono, times_mono_left, undo_times, redo_times, factor_finite}
use Rattle.plain_lemmas.proofs.Operations.{swap_middle}
use Rattle.trop_theory.proofs.Rows.{same_rows, entry-joined, entry-bottom, entry-scaled, scaled-scaled, scaled_one, below_trans}
use Rattle.trop_theory.proofs.Combinations.{IsCombination-length, IsCombination-scaled}
use Rattle.trop_theory.proofs.Residual.{met_from_IsCombination, IsCombination_from_met}
use Rattle.plain_lemmas.proofs.Lists.{Any-head, Any-cons, Any-decided}
use Rattle.trop_theory.proofs.Canonical.{IsCombination-least, multiple_from_extreme, Contains-extreme}
use Rattle.trop_theory.proofs.SameCones.{IsCombination-contained}
use Rattle.trop_theory.proofs.Decided.{Below-decided}
use Rattle.plain_lemmas.proofs.Decisions.{Decided, all_or_some}
use Rattle.trop_theory.proofs.Narrower.{IsExtreme-narrower}
use Rattle.trop_theory.proofs.Types.{IsExtreme-from_type}
use Rattle.trop_cones.specs.Minimal.{at_one, IsMinimalAt}

-- the multiple of g that has the entry t of x, where that of g is finite
abbrev level : {V : Type 0} → Semiring V → List V → ℕ → List V → List V
level R x t g = scaled R (R.times (entry R x t) (R.inverse (entry R g t))) g

module _ {V : Type 0} {R : Semiring V} (laws : SemiringLaws R) where
  pub Below-scaled : (c : V) (x y : List V) → Below R x y → Below R (scaled R c x) (scaled R c y)
  Below-scaled c x y h i = subst (λ v. Le R v (entry R (scaled R c y) i)) (sym (entry-scaled laws c x i))
      (subst (Le R (R.times c (entry R x i))) (sym (entry-scaled laws c y i)) (times_mono laws c _ _ (h i)))

  pub below_both : (x y : List V) → length x ≡ length y → Below R x y → Below R y x → x ≡ y
  below_both x y l h k = same_rows R x y l (λ i. le_antisym laws _ _ (h i) (k i))

  pub undo_inverse : (c : V) → c ≢ R.zero → R.times (R.inverse c) c ≡ R.one
  undo_inverse c f = laws.times_comm (R.inverse c) c ∙ laws.invertible c f

  -- scaled to the one at t and back
  pub from_one : (t : ℕ) (a : V) (g : List V) → scaled R a (at_one R t g) ≡ scaled R (R.times a (R.inverse (entry R g t))) g
  from_one t a g = scaled-scaled laws a (R.inverse (entry R g t)) g

  pub from_one_itself : (t : ℕ) (x : List V) → entry R x t ≢ R.zero → scaled R (entry R x t) (at_one R t x) ≡ x
  from_one_itself t x f = from_one t (entry R x t) x ∙ ap (λ c. scaled R c x) (laws.invertible (entry R x t) f)
      ∙ scaled_one laws x

  pub to_one : (a b : V) (g : List V) → a ≢ R.zero → scaled R (R.inverse a) (scaled R (R.times a b) g) ≡ scaled R b g
  to_one a b g f =
      scaled-scaled laws (R.inverse a) (R.times a b) g
      ∙ ap (λ c. scaled R c g) (sym (laws.times_assoc (R.inverse a) a b) ∙ ap (λ c. R.times c b) (undo_inverse a f)
      ∙ laws.one_neutral b)

module _ {V : Type 0} {R : Semiring V} (laws : SemiringLaws R) (n : ℕ) (rows : List (List V))
    (w : All (λ g. length g ≡ n) rows) where
  module _ (x : List V) (t : ℕ) (in_cone : IsCombination R n rows x) where
    wide : length x ≡ n
    wide = IsCombination-length laws n rows x w in_cone

    minimal_from_type : IsType R (IsCombination R n rows) x t → IsMinimalAt R rows x t
    minimal_from_type h = record {
      finite = h.finite;
      minimal = λ g c f below.
          let under : Below R (level R x t g) x =
          subst (Below R (level R x t g)) (from_one_itself laws t x h.finite)
          (subst (λ v. Below R v (scaled R (entry R x t) (at_one R t x))) (from_one laws t (entry R x t) g)
          (Below-scaled laws (entry R x t) (at_one R t g) (at_one R t x) below)) in
          let same : level R x t g ≡ x =
          h.least (level R x t g) (IsCombination-scaled laws n rows _ g (IsCombination-contained laws n rows g w c))
          under
          (entry-scaled laws _ g t ∙ redo_times laws (entry R g t) (entry R x t) f) in
          sym (to_one laws (entry R x t) (R.inverse (entry R g t)) g h.finite)
          ∙ ap (scaled R (R.inverse (entry R x t))) same;
    }

    type_from_minimal : IsMinimalAt R rows x t → IsType R (IsCombination R n rows) x t
    type_from_minimal h = record {
      member = in_cone;
      finite = h.finite;
      least = λ y hy below e.
          let m = met_from_IsCombination laws n rows y w hy t (λ z. h.finite (sym e ∙ z)) in
          least y (IsCombination-length laws n rows y w hy) below e m.1
          (m.0, m.2, get_or_default rows m.0 m.1 _ m.2 ∙ m.3) m.4;
    }
      where
        least : (y : List V) → length y ≡ n → Below R y x → entry R y t ≡ entry R x t → (g : List V) → Contains rows g →
            Meets R y t g → y ≡ x
        least y ly below e g c m =
            let f : entry R g t ≢ R.zero = factor_finite laws m.multiple (entry R g t) (entry R x t)
            (m.meets ∙ e) h.finite in
            let factor : m.multiple ≡ R.times (entry R x t) (R.inverse (entry R g t)) =
            undo_times laws (entry R g t) m.multiple (entry R x t) f (m.meets ∙ e) in
            let under : Below R (level R x t g) y = subst (λ a. Below R (scaled R a g) y) factor m.below in
            let at : Below R (at_one R t g) (at_one R t x) =
            subst (λ v. Below R v (at_one R t x)) (to_one laws (entry R x t) (R.inverse (entry R g t)) g h.finite)
            (Below-scaled laws (R.inverse (entry R x t)) _ x (below_trans laws _ y x under below)) in
            let same : level R x t g ≡ x = sym (from_one laws t (entry R x t) g) ∙ ap (scaled R (entry R x t))
            (h.minimal g c f at) ∙ from_one_itself laws t x h.finite in
            below_both laws y x (ly ∙ sym wide) below (subst (λ v. Below R v y) same under)

    -- the types of a vector of the cone are the coordinates at which it is minimal
    pub type_is_minimal : IsType R (IsCombination R n rows) x t ↔ IsMinimalAt R rows x t
    type_is_minimal = (minimal_from_type, type_from_minimal)

  -- g is strictly below x where both are scaled to the one at t
  pub record IsLower (x : List V) (t : ℕ) (g : List V) : Type 0 where
    pub finite : entry R g t ≢ R.zero
    pub below : Below R (at_one R t g) (at_one R t x)
    pub strictly : Below R (at_one R t x) (at_one R t g) → ⊥

  IsLower-decided : (x : List V) (t : ℕ) (g : List V) → Decided (IsLower x t g)
  IsLower-decided x t g = ⊎_elim
      (λ z. inr (λ h. h.finite z))
      (λ f. ⊎_elim
      (λ b. ⊎_elim (λ s. inr (λ h. h.strictly s)) (λ s. inl (record { finite = f; below = b; strictly = s }))
      (Below-decided laws (at_one R t x) (at_one R t g)))
      (λ b. inr (λ h. b h.below))
      (Below-decided laws (at_one R t g) (at_one R t x)))
      (laws.discrete (entry R g t) R.zero)

  IsMinimalAt-from_none : (x : List V) (t : ℕ) → length x ≡ n → entry R x t ≢ R.zero → (Any (IsLower x t) rows → ⊥) →
      IsMinimalAt R rows x t
  IsMinimalAt-from_none x t l f none = record {
    finite = f;
    minimal = λ g c p b. ⊎_elim
        (λ s. below_both laws (at_one R t g) (at_one R t x)
        (length-map g (R.times (R.inverse (entry R g t))) ∙ All-contains (λ g. length g ≡ n) rows g w c
        ∙ sym (length-map x (R.times (R.inverse (entry R x t))) ∙ l)) b s)
        (λ s. absurd (none (c.0, g, c.1, c.2, record { finite = p; below = b; strictly = s })))
        (Below-decided laws (at_one R t x) (at_one R t g));
  }

  -- a vector is minimal where no row is strictly below it
  pub minimal_is_none_lower : (x : List V) (t : ℕ) → length x ≡ n → entry R x t ≢ R.zero →
      IsMinimalAt R rows x t ↔ (Any (IsLower x t) rows → ⊥)
  minimal_is_none_lower x t l f = (
    λ h a. a.4.strictly (subst (Below R (at_one R t x)) (sym (h.minimal a.1 (a.0, a.2, a.3) a.4.finite a.4.below))
        (λ i. le_refl laws _)),
    λ none. IsMinimalAt-from_none x t l f none,
  )

  -- a vector of the cone that is below x, differs from it and has one of its finite entries
  record IsPart (x y : List V) : Type 0 where
    member : IsCombination R n rows y
    below : Below R y x
    differs : y ≢ x
    place : ℕ
    finite : entry R x place ≢ R.zero
    meets : entry R y place ≡ entry R x place

  part_of_lower : (x : List V) (t : ℕ) → entry R x t ≢ R.zero → Any (IsLower x t) rows →
      (y : List V) × IsPart x y × (entry R y t ≡ entry R x t)
  part_of_lower x t f a =
      let low = a.4 in
      let here : entry R (level R x t a.1) t ≡ entry R x t =
      entry-scaled laws _ a.1 t ∙ redo_times laws (entry R a.1 t) (entry R x t) low.finite in (
        level R x t a.1,
        record {
          member = IsCombination-scaled laws n rows _ a.1 (IsCombination-contained laws n rows a.1 w (a.0, a.2, a.3));
          below = subst (Below R (level R x t a.1)) (from_one_itself laws t x f)
              (subst (λ v. Below R v (scaled R (entry R x t) (at_one R t x))) (from_one laws t (entry R x t) a.1)
              (Below-scaled laws (entry R x t) (at_one R t a.1) (at_one R t x) low.below));
          differs = λ e. low.strictly (subst (Below R (at_one R t x))
              (sym (sym (to_one laws (entry R x t) (R.inverse (entry R a.1 t)) a.1 f)
              ∙ ap (scaled R (R.inverse (entry R x t))) e)) (λ i. le_refl laws _));
          place = t;
          finite = f;
          meets = here;
        },
        here,
      )

  -- parts of x that have each of its finite entries below m
  record Cover (x : List V) (m : ℕ) : Type 0 where
    parts : List (List V)
    are : All (IsPart x) parts
    covers : (t : ℕ) → t < m → entry R x t ≢ R.zero → Any (Meets R x t) parts

  cover : (x : List V) → (m : ℕ) → ((t : ℕ) → t < m → entry R x t ≢ R.zero → Any (IsLower x t) rows) → Cover x m
  cover x zero h = record {
    parts = [];
    are = All-nil (IsPart x);
    covers = λ t l. absurd (omega arith);
  }
  cover x (suc m) h = ⊎_elim
      (λ z. let r = cover x m (λ t l. h t (omega arith)) in record {
        parts = r.parts;
        are = r.are;
        covers = λ t l f. ⊎_elim (λ q. r.covers t q f)
            (λ q. let e : m ≡ t = omega arith in absurd (f (subst (λ i. entry R x i ≡ R.zero) e z))) (cases_lt t m);
      })
      (λ f.
      let r = cover x m (λ t l. h t (omega arith)) in
      let p = part_of_lower x m f (h m (omega arith) f) in
      record {
        parts = p.0 ∷ r.parts;
        are = All-cons (IsPart x) p.0 r.parts p.1 r.are;
        covers = λ t l f'. ⊎_elim
            (λ q. Any-cons (Meets R x t) p.0 r.parts (r.covers t q f'))
            (λ q. let e : m ≡ t = omega arith in subst (λ i. Any (Meets R x i) (p.0 ∷ r.parts)) e
            (Any-head (Meets R x m) p.0 r.parts (record {
              multiple = R.one;
              below = subst (λ v. Below R v x) (sym (scaled_one laws p.0)) p.1.below;
              meets = laws.one_neutral (entry R p.0 m) ∙ p.2;
            })))
            (cases_lt t m);
      })
      (laws.discrete (entry R x m) R.zero)

  -- an extreme vector is no sum of such parts
  not_covered : (x : List V) → IsExtreme R (IsCombination R n rows) x →
      ((t : ℕ) → t < n → entry R x t ≢ R.zero → Any (IsLower x t) rows) → ⊥
  not_covered x h all = impossible found.0 found.1 found.2 found.3 found.4.0 found.4.1
    where
      c : Cover x n
      c = cover x n all

      lx : length x ≡ n
      lx = IsCombination-length laws n rows x w h.member

      parts_wide : All (λ g. length g ≡ n) c.parts
      parts_wide k d l = IsCombination-length laws n rows (get_or c.parts k d) w (c.are k d l).member

      in_parts : IsCombination R n c.parts x
      in_parts = IsCombination_from_met laws n c.parts x parts_wide lx
          (λ t f. ⊎_elim (λ l. c.covers t l f) (λ l. absurd (f (get_or_past x t R.zero (omega (arith, lx)))))
          (cases_lt t n))

      found : Any (λ g. (a : V) × (x ≡ scaled R a g)) c.parts
      found = multiple_from_extreme laws n c.parts x parts_wide
          (IsExtreme-narrower (IsCombination R n rows) (IsCombination R n c.parts)
          (λ y k. IsCombination-least laws n c.parts rows y w (λ k d l. (c.are k d l).member) k) x in_parts h)

      impossible : (k : ℕ) (y : List V) → k < length c.parts → get_or c.parts k y ≡ y → (a : V) → x ≡ scaled R a y → ⊥
      impossible k y l e a s =
          let p : IsPart x y = subst (IsPart x) e (c.are k y l) in
          let product : R.times a (entry R x p.place) ≡ entry R x p.place =
          ap (R.times a) (sym p.meets) ∙ sym (entry-scaled laws a y p.place) ∙ ap (λ v. entry R v p.place)
          (sym s) in
          let one : a ≡ R.one = undo_times laws (entry R x p.place) a (entry R x p.place) p.finite product
          ∙ laws.invertible (entry R x p.place) p.finite in
          p.differs (sym (s ∙ ap (λ v. scaled R v y) one ∙ scaled_one laws y))

  -- a vector of the cone is extreme exactly where it is minimal at some coordinate
  pub extreme_is_minimal : (x : List V) → IsCombination R n rows x →
      IsExtreme R (IsCombination R n rows) x ↔ ((t : ℕ) × IsMinimalAt R rows x t)
  extreme_is_minimal x c = (
    there,
    λ m. IsExtreme-from_type laws n (IsCombination R n rows) x m.0
        (λ y k. IsCombination-length laws n rows y w k) (type_from_minimal x m.0 c m.1),
  )
    where
      each : (t : ℕ) → Decided (entry R x t ≢ R.zero → Any (IsLower x t) rows)
      each t = ⊎_elim
          (λ z. inl (λ f. absurd (f z)))
          (λ f. ⊎_elim (λ a. inl (λ f'. a)) (λ na. inr (λ h. na (h f)))
          (Any-decided (IsLower x t) (IsLower-decided x t) rows))
          (laws.discrete (entry R x t) R.zero)

      there : IsExtreme R (IsCombination R n rows) x → (t : ℕ) × IsMinimalAt R rows x t
      there h = ⊎_elim
          (λ all. absurd (not_covered x h all))
          (λ s. (
            s.0,
            IsMinimalAt-from_none x s.0 (IsCombination-length laws n rows x w c)
                (λ z. s.2 (λ f. absurd (f z))) (λ a. s.2 (λ f. a)),
          ))
          (all_or_some (λ t. entry R x t ≢ R.zero → Any (IsLower x t) rows) each n)

  -- an extreme vector of the combinations has a type
  pub generated_extreme_has_type : (x : List V) → IsCombination R n rows x →
      IsExtreme R (IsCombination R n rows) x ↔ ((t : ℕ) × IsType R (IsCombination R n rows) x t)
  generated_extreme_has_type x c = (
    λ h. let m = (extreme_is_minimal x c).0 h in (m.0, type_from_minimal x m.0 c m.1),
    λ h. IsExtreme-from_type laws n (IsCombination R n rows) x h.0 (λ y k. IsCombination-length laws n rows y w k) h.1,
  )

  -- the canonical list has the rows that are minimal at some coordinate
  pub canonical_is_minimal : (others : List (List V)) → All (IsNormal R) rows →
      IsCanonical R (IsCombination R n rows) others → (x : List V) →
      Contains others x ↔ (Contains rows x × ((t : ℕ) × IsMinimalAt R rows x t))
  canonical_is_minimal others normal h x = (
    λ c.
        let e : IsExtreme R (IsCombination R n rows) x =
        All-contains (IsExtreme R (IsCombination R n rows)) others x h.extreme c in (
          Contains-extreme laws n rows x w normal (All-contains (IsNormal R) others x h.normal c) e,
          (extreme_is_minimal x e.member).0 e,
        ),
    λ m. h.complete x (All-contains (IsNormal R) rows x normal m.0)
        ((extreme_is_minimal x (IsCombination-contained laws n rows x w m.0)).1 m.1),
  )

module _ {V : Type 0} {R : Semiring V} (laws : SemiringLaws R) where
  cross : (a b c : V) → a ≢ R.zero → R.times (R.times (R.inverse a) b) (R.times a c) ≡ R.times b c
  cross a b c f =
      swap_middle R.times laws.times_assoc laws.times_comm (R.inverse a) b a c
      ∙ ap (λ v. R.times v (R.times b c)) (undo_inverse laws a f) ∙ laws.one_neutral (R.times b c)

  crossed : (g x : List V) (t j : ℕ) → entry R g t ≢ R.zero →
      R.times (entry R (at_one R t g) j) (R.times (entry R g t) (entry R x t)) ≡ R.times (entry R g j) (entry R x t)
  crossed g x t j f = ap (λ v. R.times v (R.times (entry R g t) (entry R x t)))
      (entry-scaled laws (R.inverse (entry R g t)) g j) ∙ cross (entry R g t) (entry R g j) (entry R x t) f

  crossed_back : (g x : List V) (t j : ℕ) → entry R x t ≢ R.zero →
      R.times (entry R (at_one R t x) j) (R.times (entry R g t) (entry R x t)) ≡ R.times (entry R x j) (entry R g t)
  crossed_back g x t j f = ap (R.times (entry R (at_one R t x) j)) (laws.times_comm (entry R g t) (entry R x t))
      ∙ crossed x g t j f

  -- the comparison of two rows scaled to the one at t, by products alone
  pub below_by_products : (g x : List V) (t : ℕ) → entry R g t ≢ R.zero → entry R x t ≢ R.zero →
      Below R (at_one R t g) (at_one R t x) ↔ ((j : ℕ) →
      Le R (R.times (entry R g j) (entry R x t)) (R.times (entry R x j) (entry R g t)))
  below_by_products g x t fg fx = (
    λ h j. subst (λ v. Le R v (R.times (entry R x j) (entry R g t))) (crossed g x t j fg)
        (subst (Le R (R.times (entry R (at_one R t g) j) (R.times (entry R g t) (entry R x t))))
        (crossed_back g x t j fx)
        (times_mono_left laws (R.times (entry R g t) (entry R x t)) _ _ (h j))),
    λ h j. cancel_right (entry R (at_one R t g) j) (entry R (at_one R t x) j)
        (R.times (entry R g t) (entry R x t)) finite
        (subst (λ v. Le R v (R.times (entry R (at_one R t x) j) (R.times (entry R g t) (entry R x t))))
        (sym (crossed g x t j fg))
        (subst (Le R (R.times (entry R g j) (entry R x t))) (sym (crossed_back g x t j fx)) (h j))),
  )
    where
      finite : R.times (entry R g t) (entry R x t) ≢ R.zero
      finite z = fg (undo_times laws (entry R x t) (entry R g t) R.zero fx z ∙ laws.zero_absorbs _)

      cancel_right : (a b c : V) → c ≢ R.zero → Le R (R.times a c) (R.times b c) → Le R a b
      cancel_right a b c f h =
          subst (λ v. Le R v b) (sym (undo_times laws c a (R.times a c) f refl))
          (subst (Le R (R.times (R.times a c) (R.inverse c))) (sym (undo_times laws c b (R.times b c) f refl))
          (times_mono_left laws (R.inverse c) _ _ h))
