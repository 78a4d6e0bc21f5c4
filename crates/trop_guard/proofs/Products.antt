-- Rows compared by products.
use Rattle.std.proofs.Common.{◌≡◌, ◌≢◌, ◌<◌, ◌≤◌, ◌+◌, ◌^◌, ℕ, List, length, map, get_or, ⊎_elim, sym, ap, ap₂, ◌∙◌, subst, arith}
use Rattle.std.specs.Prelude.{◌↔◌}
use Rattle.std.proofs.lemmas.Bool.{cases_lt}
use Rattle.std.proofs.lemmas.List.{length-map, get_or_past, get_or-map}
use Rattle.trop_theory.specs.Semiring.{Semiring, SemiringLaws, Le}
use Rattle.trop_theory.specs.Vectors.{entry, joined, scaled}
use Rattle.trop_theory.proofs.Order.{le_antisym, zero_below, times_zero}
use Rattle.trop_theory.proofs.Rows.{entry-joined, entry-scaled, length-joined}
use Rattle.trop_cones.specs.Minimal.{at_one}
use Rattle.trop_cones.proofs.Sizes.{size_entry}
use Rattle.trop_cones.proofs.Minimal.{below_by_products}
use Rattle.trop_guard.specs.Fresh.{IsLower}
use Rattle.trop_guard.specs.Pairs.{CanCompare}

module _ {V : Type 0} {R : Semiring V} (laws : SemiringLaws R) where
  pub mixed_at : (a b : V) (v w : List V) → length v ≡ length w → (j : ℕ) →
      entry R (joined R (scaled R a v) (scaled R b w)) j ≡ R.plus (R.times a (entry R v j)) (R.times b (entry R w j))
  mixed_at a b v w l j = entry-joined laws (scaled R a v) (scaled R b w)
      (length-map v (R.times a) ∙ l ∙ sym (length-map w (R.times b))) j ∙ ap₂ R.plus (entry-scaled laws a v j)
      (entry-scaled laws b w j)

  pub mixed_length : (a b : V) (v w : List V) → length v ≡ length w →
      length (joined R (scaled R a v) (scaled R b w)) ≡ length v
  mixed_length a b v w l = length-joined R (scaled R a v) (scaled R b w) (length v) (length-map v (R.times a))
      (length-map w (R.times b) ∙ sym l)

  -- an entry of the sum of multiples is small
  pub mixed_small : (v w : List V) (left right : V) (j : ℕ) → CanCompare R v left w right →
      R.size (R.plus (R.times left (entry R v j)) (R.times right (entry R w j))) ≤ 2 ^ 59
  mixed_small v w left right j h = omega (
    arith,
    laws.size_plus (R.times left (entry R v j)) (R.times right (entry R w j)),
    laws.size_times left (entry R v j),
    laws.size_times right (entry R w j),
    size_entry laws v j,
    size_entry laws w j,
    h.v_small,
    h.w_small,
    h.left_small,
    h.right_small,
  )

  -- a row is lower where the products say so, and some of them differ
  lower_by_products : (g x : List V) (t : ℕ) → entry R g t ≢ R.zero → entry R x t ≢ R.zero →
      IsLower R x t g ↔ (((j : ℕ) → Le R (R.times (entry R g j) (entry R x t)) (R.times (entry R x j) (entry R g t)))
      × (((j : ℕ) → Le R (R.times (entry R x j) (entry R g t)) (R.times (entry R g j) (entry R x t))) → ⊥))
  lower_by_products g x t fg fx =
      let there = below_by_products laws g x t fg fx in
      let back = below_by_products laws x g t fx fg in (
        λ h. (there.0 h.below, λ f. h.strictly (back.1 f)),
        λ h. record { finite = fg; below = there.1 h.0; strictly = λ f. h.1 (back.0 f) },
      )

  module _ (g x : List V) (t : ℕ) (top : V) (is_top : top ≡ entry R g t) (same : length g ≡ length x)
      (finite : entry R x t ≢ R.zero) where
    -- the products at j, below and above
    abbrev pub Under : ℕ → Type 0
    Under j = Le R (R.times (entry R g j) (entry R x t)) (R.times (entry R x j) top)

    abbrev pub Over : ℕ → Type 0
    Over j = Le R (R.times (entry R x j) top) (R.times (entry R g j) (entry R x t))

    -- past the ends both are the zero
    both_zero : (j : ℕ) → length x ≤ j → R.times (entry R g j) (entry R x t) ≡ R.times (entry R x j) top
    both_zero j l =
        ap (λ a. R.times a (entry R x t)) (get_or_past g j R.zero (omega arith)) ∙ laws.zero_absorbs _
        ∙ sym (ap (λ a. R.times a top) (get_or_past x j R.zero l) ∙ laws.zero_absorbs _)

    under_all : ((j : ℕ) → j < length x → Under j) → (j : ℕ) → Under j
    under_all h j = ⊎_elim (λ l. h j l) (λ l. subst (Le R (R.times (entry R g j) (entry R x t))) (both_zero j l)
        (laws_refl (R.times (entry R g j) (entry R x t)))) (cases_lt j (length x))
      where
        laws_refl : (a : V) → Le R a a
        laws_refl a = ⊎_elim (λ e. e) (λ e. e) (laws.selective a a)

    pub lower_from_parts : top ≢ R.zero → ((j : ℕ) → j < length x → Under j) → (((j : ℕ) → j < length x → Over j) → ⊥) →
        IsLower R x t g
    lower_from_parts f under over = (lower_by_products g x t (λ z. f (is_top ∙ z)) finite).1 (
      λ j. subst (λ a. Le R (R.times (entry R g j) (entry R x t)) (R.times (entry R x j) a)) is_top (under_all under j),
      λ all. over (λ j l. subst (λ a. Le R (R.times (entry R x j) a) (R.times (entry R g j) (entry R x t))) (sym is_top)
          (all j)),
    )

    pub under_from_lower : IsLower R x t g → (j : ℕ) → j < length x → Under j
    under_from_lower h j l = subst (λ a. Le R (R.times (entry R g j) (entry R x t)) (R.times (entry R x j) a))
        (sym is_top) (((lower_by_products g x t h.finite finite).0 h).0 j)

    pub not_over_from_lower : IsLower R x t g → ((j : ℕ) → j < length x → Over j) → ⊥
    not_over_from_lower h over = ((lower_by_products g x t h.finite finite).0 h).1 (λ j. ⊎_elim
        (λ l. subst (λ a. Le R (R.times (entry R x j) a) (R.times (entry R g j) (entry R x t))) is_top (over j l))
        (λ l. subst (λ a. Le R (R.times (entry R x j) a) (R.times (entry R g j) (entry R x t))) is_top
        (subst (λ b. Le R b (R.times (entry R g j) (entry R x t))) (both_zero j l)
        (itself (R.times (entry R g j) (entry R x t)))))
        (cases_lt j (length x)))
      where
        itself : (a : V) → Le R a a
        itself a = ⊎_elim (λ e. e) (λ e. e) (laws.selective a a)

-- a sum that was read is that of the row at its place
pub sum_read : {X Y : Type 0} (f : X → Y) (xs : List X) (ys : List Y) (k : ℕ) (x : X) (y : Y) → ys ≡ map f xs →
    k < length xs → x ≡ get_or xs k x → y ≡ get_or ys k y → y ≡ f x
sum_read f xs ys k x y e l ex ey = ey ∙ ap (λ s. get_or s k y) e ∙ get_or-map f xs k x y l ∙ ap f (sym ex)
