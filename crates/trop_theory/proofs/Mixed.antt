-- Mixed rows: their sizes, and that none is bottom.
use Rattle.std.proofs.Common.{◌≡◌, ◌≢◌, ◌≤◌, ◌+◌, ◌*◌, ℕ, max, List, [], ◌∷◌, length, ⊎_elim, sym, ap, ◌∙◌, arith, subst}
use Rattle.std.specs.List.{AllZip}
use Rattle.std.proofs.lemmas.List.{length-map, length-append, length-replicate}
use Rattle.std.proofs.lemmas.List.Elements.{length_all_zip}
use Rattle.trop_theory.specs.Semiring.{Semiring, SemiringLaws, Le}
use Rattle.trop_theory.specs.Vectors.{entry, scaled, joined, dot, bottom, row_size}
use Rattle.trop_theory.specs.Normal.{Normalises}
use Rattle.trop_theory.specs.Inequalities.{Inequality, IsTrueAt, inequality_size, IsIn}
use Rattle.trop_theory.specs.Steps.{mixed}
use Rattle.trop_theory.specs.StepList.{AreMixedOf, AreMixed}
use Rattle.trop_theory.proofs.Order.{zero_below, below_zero, le-plus_left, undo_times}
use Rattle.trop_theory.proofs.Rows.{same_rows, entry-joined, entry-scaled, entry-bottom, length-joined}
use Rattle.trop_theory.proofs.SameCones.{row_size-scaled}
use Rattle.trop_theory.proofs.Truth.{truth}

module _ {V : Type 0} {R : Semiring V} (laws : SemiringLaws R) where
  pub size-dot : (c x : List V) → R.size (dot R c x) ≤ row_size R c + row_size R x
  size-dot [] x = omega (arith, laws.size_zero)
  size-dot (a ∷ c) [] = omega (arith, laws.size_zero)
  size-dot (a ∷ c) (b ∷ x) = omega (arith, laws.size_plus (R.times a b) (dot R c x), laws.size_times a b, size-dot c x)

  pub row_size-joined : (x y : List V) → row_size R (joined R x y) ≤ max (row_size R x) (row_size R y)
  row_size-joined [] y = omega arith
  row_size-joined (a ∷ x) [] = omega arith
  row_size-joined (a ∷ x) (b ∷ y) = omega (arith, laws.size_plus a b, row_size-joined x y)

  pub row_size-mixed : (p : Inequality V) (v w : List V) (m k : ℕ) → row_size R v ≤ m → row_size R w ≤ m →
      inequality_size R p ≤ k → row_size R (mixed R p.left p.right v w) ≤ m + m + k
  row_size-mixed p v w m k hv hw hp =
      omega (
        arith,
        row_size-joined (scaled R (dot R p.left w) v) (scaled R (dot R p.right v) w),
        row_size-scaled laws (dot R p.left w) v,
        row_size-scaled laws (dot R p.right v) w,
        size-dot p.left w,
        size-dot p.right v,
      )

  pub length-mixed : (a b v w : List V) → length v ≡ length w → length (mixed R a b v w) ≡ length v
  length-mixed a b v w e = length-joined R _ _ (length v) (length-map v (R.times (dot R a w)))
      (length-map w (R.times (dot R b v)) ∙ sym e)

  -- a multiple of a vector other than bottom by a finite element stands below the mixed row
  pub mixed_not_bottom : (p : Inequality V) (v w : List V) → IsIn (length v) p → length v ≡ length w →
      (IsTrueAt R p w → ⊥) → v ≢ bottom R (length v) →
      mixed R p.left p.right v w ≢ bottom R (length (mixed R p.left p.right v w))
  mixed_not_bottom p v w inside e fails f is = f (same_rows R v (bottom R (length v)) (sym (length-replicate _ _))
      (λ i. none i ∙ sym (entry-bottom R (length v) i)))
    where
      -- the left side of the dropped row is finite
      factor : dot R p.left w ≢ R.zero
      factor z = fails ((truth laws p.left p.right w (inside.left ∙ e) (inside.right ∙ e)).0
          (subst (λ t. Le R t (dot R p.right w)) (sym z) (zero_below laws _)))

      lengths : length (scaled R (dot R p.left w) v) ≡ length (scaled R (dot R p.right v) w)
      lengths = length-map v (R.times (dot R p.left w)) ∙ e ∙ sym (length-map w (R.times (dot R p.right v)))

      sum : (i : ℕ) → R.plus (R.times (dot R p.left w) (entry R v i)) (entry R (scaled R (dot R p.right v) w) i) ≡
          R.zero
      sum i =
          ap (λ t. R.plus t (entry R (scaled R (dot R p.right v) w) i)) (sym (entry-scaled laws (dot R p.left w) v i))
          ∙ sym (entry-joined laws (scaled R (dot R p.left w) v) (scaled R (dot R p.right v) w) lengths i)
          ∙ ap (λ x. entry R x i) is ∙ entry-bottom R (length (mixed R p.left p.right v w)) i

      product : (i : ℕ) → R.times (dot R p.left w) (entry R v i) ≡ R.zero
      product i = below_zero laws _ (subst (Le R (R.times (dot R p.left w) (entry R v i))) (sum i)
          (le-plus_left laws _ _))

      none : (i : ℕ) → entry R v i ≡ R.zero
      none i = ⊎_elim (λ z. z)
          (λ g. absurd (factor (undo_times laws (entry R v i) (dot R p.left w) R.zero g (product i)
          ∙ laws.zero_absorbs _)))
          (laws.discrete (entry R v i) R.zero)

module _ {V : Type 0} (R : Semiring V) (p : Inequality V) (dropped : List (List V)) where
  length_mixed_of : (v : List V) (front : List (List V)) → AreMixedOf R p dropped v front →
      length front ≤ length dropped
  length_mixed_of v front h = ⊎_elim
      (λ z. omega (arith, ap length z.1))
      (λ f. omega (arith, length_all_zip_lists dropped front f.1))
      h
    where
      length_all_zip_lists : (xs ys : List (List V)) →
          AllZip (λ w x. Normalises R (mixed R p.left p.right v w) x) xs ys → length xs ≡ length ys
      length_all_zip_lists xs ys q = length_all_zip (λ w x. Normalises R (mixed R p.left p.right v w) x) xs ys q

  -- at most one new row for each pair
  pub length_mixed : (kept fresh : List (List V)) → AreMixed R p dropped kept fresh →
      length fresh ≤ length kept * length dropped
  length_mixed [] fresh h = omega (arith, ap length h)
  length_mixed (v ∷ kept) fresh h =
      omega (arith, ap length h.2, length-append h.0 h.1, length_mixed_of v h.0 h.3, length_mixed kept h.1 h.4)
