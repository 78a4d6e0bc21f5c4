-- A vector with a type is extreme.
use Rattle.std.proofs.Common.{◌≡◌, ◌≢◌, ◌⊎◌, ◌<◌, ℕ, Bool, List, length, inl, inr, ⊎_elim, sym, ap, ◌∙◌, subst, get_or}
use Rattle.std.specs.Prelude.{All}
use Rattle.trop_theory.specs.Semiring.{Semiring, SemiringLaws, Le}
use Rattle.trop_theory.specs.Vectors.{entry, dot, Below}
use Rattle.trop_theory.specs.Inequalities.{Inequality, IsTrueAt, IsIn, Solves}
use Rattle.trop_theory.specs.Extreme.{IsExtreme, IsType}
use Rattle.trop_theory.proofs.Order.{le_trans, le_antisym, times_mono, below_zero, left_factor_finite, undo_times, le-plus_left, le-plus_right, delta_moves}
use Rattle.trop_theory.proofs.Rows.{same_rows, entry-joined, entry-bottom}
use Rattle.trop_theory.proofs.Truth.{term_below}

module _ {V : Type 0} {R : Semiring V} (laws : SemiringLaws R) where
  -- a vector with a type is extreme
  pub IsExtreme-from_type : (n : ℕ) (cone : List V → Type 0) (x : List V) (t : ℕ) →
      ((y : List V) → cone y → length y ≡ n) → IsType R cone x t → IsExtreme R cone x
  IsExtreme-from_type n cone x t wide h = record {
    member = h.member;
    not_bottom = λ e. h.finite (ap (λ y. entry R y t) e ∙ entry-bottom R (length x) t);
    unsplit = λ y z in_y in_z sum.
        let at : (i : ℕ) → entry R x i ≡ R.plus (entry R y i) (entry R z i) =
        λ i. ap (λ v. entry R v i) sum ∙ entry-joined laws y z (wide y in_y ∙ sym (wide z in_z)) i in
        ⊎_elim
        (λ e. inl (sym (h.least y in_y (λ i. subst (Le R (entry R y i)) (sym (at i)) (le-plus_left laws _ _))
        (sym e ∙ sym (at t)))))
        (λ e. inr (sym (h.least z in_z (λ i. subst (Le R (entry R z i)) (sym (at i)) (le-plus_right laws _ _))
        (sym e ∙ sym (at t)))))
        (laws.selective (entry R y t) (entry R z t));
  }
