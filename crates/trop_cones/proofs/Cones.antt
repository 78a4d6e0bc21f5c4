-- Combinations, the vectors at which an inequality is true, and solutions are cones; a cone has each combination of its
-- vectors.
use Rattle.std.proofs.Common.{◌≡◌, ℕ, List, [], ◌∷◌, length, sym, ap, ◌∙◌, subst}
use Rattle.std.specs.Prelude.{All, ◌↔◌}
use Rattle.std.proofs.lemmas.List.{length-map, length-replicate}
use Rattle.std.proofs.lemmas.List.Elements.{All-head, All-tail}
use Rattle.trop_theory.specs.Semiring.{Semiring, SemiringLaws, Le}
use Rattle.trop_theory.specs.Vectors.{entry, scaled, joined, bottom}
use Rattle.trop_theory.specs.Combinations.{combined, IsCombination}
use Rattle.trop_theory.specs.Inequalities.{Inequality, IsTrueAt, Solves, IsIn, IsValidOn}
use Rattle.trop_theory.proofs.Order.{zero_below, times_zero}
use Rattle.trop_theory.proofs.Rows.{entry-bottom, length-joined}
use Rattle.trop_theory.proofs.Combinations.{IsCombination-length, IsCombination-bottom, IsCombination-joined, IsCombination-scaled}
use Rattle.trop_theory.proofs.Residual.{IsCombination-at}
use Rattle.trop_theory.proofs.StepLaws.{HoldsOf-joined, HoldsOf-scaled}
use Rattle.trop_theory.proofs.Truth.{truth}
use Rattle.trop_cones.specs.Cones.{IsCone}

module _ {V : Type 0} {R : Semiring V} (laws : SemiringLaws R) (n : ℕ) where
  combined_in : (cone : List V → Type 0) → IsCone R n cone → (cs : List V) (rows : List (List V)) → All cone rows →
      cone (combined R n cs rows)
  combined_in cone h [] rows w = h.bottom
  combined_in cone h (c ∷ cs) [] w = h.bottom
  combined_in cone h (c ∷ cs) (g ∷ rows) w = h.sums _ _ (h.multiples c g (All-head cone g rows w))
      (combined_in cone h cs rows (All-tail cone g rows w))

  -- a cone has the combinations of its vectors
  pub IsCombination-in : (cone : List V → Type 0) → IsCone R n cone → (rows : List (List V)) (x : List V) →
      All cone rows → IsCombination R n rows x → cone x
  IsCombination-in cone h rows x w c = subst cone (sym c.is_sum) (combined_in cone h c.coefficients rows w)

  pub combinations_are_cone : (rows : List (List V)) → All (λ g. length g ≡ n) rows →
      IsCone R n (IsCombination R n rows)
  combinations_are_cone rows w = record {
    wide = λ x h. IsCombination-length laws n rows x w h;
    bottom = IsCombination-bottom laws n rows w;
    sums = λ x y h k. IsCombination-joined laws n rows x y h k;
    multiples = λ c x h. IsCombination-scaled laws n rows c x h;
  }

  IsTrueAt-bottom : (p : Inequality V) → IsTrueAt R p (bottom R n)
  IsTrueAt-bottom p i l = (
    i,
    l,
    subst (λ v. Le R v (R.times (entry R p.right i) (entry R (bottom R n) i)))
        (sym (ap (R.times (entry R p.left i)) (entry-bottom R n i) ∙ times_zero laws (entry R p.left i)))
        (zero_below laws _),
  )

  pub IsTrueAt-joined : (p : Inequality V) (x y : List V) → IsIn n p → length x ≡ n → length y ≡ n → IsTrueAt R p x →
      IsTrueAt R p y → IsTrueAt R p (joined R x y)
  IsTrueAt-joined p x y inside lx ly h k =
      let l : length (joined R x y) ≡ n = length-joined R x y n lx ly in
      (truth laws p.left p.right (joined R x y) (inside.left ∙ sym l) (inside.right ∙ sym l)).0
      (HoldsOf-joined laws p.left p.right x y (lx ∙ sym ly)
      ((truth laws p.left p.right x (inside.left ∙ sym lx) (inside.right ∙ sym lx)).1 h)
      ((truth laws p.left p.right y (inside.left ∙ sym ly) (inside.right ∙ sym ly)).1 k))

  pub IsTrueAt-scaled : (p : Inequality V) (c : V) (x : List V) → IsIn n p → length x ≡ n → IsTrueAt R p x →
      IsTrueAt R p (scaled R c x)
  IsTrueAt-scaled p c x inside lx h =
      let l : length (scaled R c x) ≡ n = length-map x (R.times c) ∙ lx in
      (truth laws p.left p.right (scaled R c x) (inside.left ∙ sym l) (inside.right ∙ sym l)).0
      (HoldsOf-scaled laws p.left p.right x c ((truth laws p.left p.right x (inside.left ∙ sym lx)
      (inside.right ∙ sym lx)).1 h))

  -- the vectors at which an inequality is true
  pub truth_is_cone : (p : Inequality V) → IsIn n p → IsCone R n (λ x. (length x ≡ n) × IsTrueAt R p x)
  truth_is_cone p inside = record {
    wide = λ x h. h.0;
    bottom = (length-replicate n R.zero, IsTrueAt-bottom p);
    sums = λ x y h k. (length-joined R x y n h.0 k.0, IsTrueAt-joined p x y inside h.0 k.0 h.1 k.1);
    multiples = λ c x h. (length-map x (R.times c) ∙ h.0, IsTrueAt-scaled p c x inside h.0 h.1);
  }

  pub solutions_are_cone : (system : List (Inequality V)) → All (IsIn n) system → IsCone R n (Solves R n system)
  solutions_are_cone system inside = record {
    wide = λ x h. h.wide;
    bottom = record { wide = length-replicate n R.zero; holds = λ k d l. IsTrueAt-bottom _ };
    sums = λ x y h k. record {
      wide = length-joined R x y n h.wide k.wide;
      holds =
          λ i d l. IsTrueAt-joined _ x y (inside i d l) h.wide k.wide (h.holds i d l) (k.holds i d l);
    };
    multiples = λ c x h. record {
      wide = length-map x (R.times c) ∙ h.wide;
      holds =
          λ i d l. IsTrueAt-scaled _ c x (inside i d l) h.wide (h.holds i d l);
    };
  }

  -- an inequality that is true at each row is valid on their combinations
  pub valid_from_rows : (p : Inequality V) → IsIn n p → (rows : List (List V)) → All (λ g. length g ≡ n) rows →
      All (IsTrueAt R p) rows → (x : List V) → IsCombination R n rows x → IsTrueAt R p x
  valid_from_rows p inside rows w h x c = (IsCombination-in (λ x. (length x ≡ n) × IsTrueAt R p x)
      (truth_is_cone p inside) rows x (λ k d l. (w k d l, h k d l)) c).1

  -- validity on the combinations of rows is truth at each row
  pub valid_is_rows : (p : Inequality V) → IsIn n p → (rows : List (List V)) → All (λ g. length g ≡ n) rows →
      IsValidOn R (IsCombination R n rows) p ↔ All (IsTrueAt R p) rows
  valid_is_rows p inside rows w = (
    λ h k d l. h _ (IsCombination-at laws n rows k d w l),
    λ h x c. valid_from_rows p inside rows w h x c,
  )

  -- a cone has the combinations of rows where it has the rows
  pub within_is_rows : (cone : List V → Type 0) → IsCone R n cone → (rows : List (List V)) →
      All (λ g. length g ≡ n) rows → ((x : List V) → IsCombination R n rows x → cone x) ↔ All cone rows
  within_is_rows cone h rows w = (
    λ inside k d l. inside _ (IsCombination-at laws n rows k d w l),
    λ all x c. IsCombination-in cone h rows x all c,
  )
