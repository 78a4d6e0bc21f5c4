-- Whether a guard leaves a vector with a finite coordinate 0, by the rows of the cone.
-- Index: times_finite, plus_finite, entry-mixed, from_kept, mixed_member, from_both, from_other, to_rows, guard_point
use Rattle.std.proofs.Common.{◌≡◌, ◌≢◌, ◌⊎◌, inl, inr, ⊎_elim, ℕ, suc, Bool, List, length, get_or, sym, ap, ◌∙◌, subst, ap₂}
use Rattle.std.specs.Prelude.{Any, Contains, ◌↔◌}
use Rattle.std.proofs.lemmas.List.{length-map}
use Rattle.std.proofs.lemmas.List.Elements.{All-contains, Contains-get_or}
use Rattle.trop_theory.specs.Semiring.{Semiring, SemiringLaws, Le}
use Rattle.trop_theory.specs.Vectors.{entry, scaled, dot, AreWide}
use Rattle.trop_theory.specs.Numbers.{Numbering, NumericLaws}
use Rattle.trop_theory.specs.Inequalities.{Inequality, IsTrueAt, InGuard, IsIn}
use Rattle.trop_theory.specs.Combinations.{IsCombination}
use Rattle.trop_theory.specs.Steps.{mixed}
use Rattle.trop_theory.proofs.Order.{below_zero, le_total, le-plus_right, times_zero, undo_times}
use Rattle.trop_theory.proofs.Rows.{entry-joined, entry-scaled}
use Rattle.trop_theory.proofs.Combinations.{IsCombination-length, IsCombination-joined, IsCombination-scaled}
use Rattle.trop_theory.proofs.SameCones.{IsCombination-contained}
use Rattle.trop_theory.proofs.Truth.{HoldsOf, truth}
use Rattle.trop_theory.proofs.Mixed.{length-mixed}
use Rattle.trop_theory.proofs.StepLaws.{HoldsOf-mixed}
use Rattle.trop_theory.proofs.StepSound.{step_is_guard}
use Rattle.trop_theory.proofs.Narrower.{Stepped, stepped}
use Rattle.cone_reports.specs.Images.{HasPoint}
use Rattle.cone_reports.proofs.EdgeLists.{finite_decided, no_point_from_rows}
use Rattle.cone_claims.specs.Points.{IsKeptPoint, IsDroppedPoint, HasRight}

module _ {V : Type 0} {R : Semiring V} (laws : SemiringLaws R) where
  times_finite : (a b : V) → a ≢ R.zero → b ≢ R.zero → R.times a b ≢ R.zero
  times_finite a b f g e = f (undo_times laws b a R.zero g e ∙ laws.zero_absorbs (R.inverse b))

  plus_finite : (a b : V) → b ≢ R.zero → R.plus a b ≢ R.zero
  plus_finite a b f e = f (below_zero laws b (subst (Le R b) e (le-plus_right laws a b)))

  -- a mixed row's entry is finite only where that of the kept row is, or that of the dropped one and a right side
  entry-mixed : (p : Inequality V) (v w : List V) (i : ℕ) → length v ≡ length w
      → entry R (mixed R p.left p.right v w) i
      ≡ R.plus (R.times (dot R p.left w) (entry R v i)) (R.times (dot R p.right v) (entry R w i))
  entry-mixed p v w i e =
      entry-joined laws (scaled R (dot R p.left w) v) (scaled R (dot R p.right v) w)
      (length-map v (R.times (dot R p.left w)) ∙ e ∙ sym (length-map w (R.times (dot R p.right v)))) i
      ∙ ap₂ R.plus (entry-scaled laws (dot R p.left w) v i) (entry-scaled laws (dot R p.right v) w i)

module _ {V : Type 0} {R : Semiring V} {N : Numbering V} {reversed : Bool} (laws : SemiringLaws R)
    (numbers : NumericLaws R N reversed) (vars : ℕ) (p : Inequality V) (inside : IsIn (suc vars) p)
    (rows : List (List V)) (w : AreWide (suc vars) rows) where
  lengths : (g : List V) → Contains rows g → length g ≡ suc vars
  lengths g c = All-contains (λ g. length g ≡ suc vars) rows g w c

  at_row : (g : List V) → Contains rows g → HoldsOf R p.left p.right g ↔ IsTrueAt R p g
  at_row g c = let l = lengths g c in truth laws p.left p.right g (inside.left ∙ sym l) (inside.right ∙ sym l)

  from_kept : Any (IsKeptPoint R p) rows → HasPoint R (InGuard R (IsCombination R (suc vars) rows) p)
  from_kept h = record {
    point = h.1;
    member = (IsCombination-contained laws (suc vars) rows h.1 w (h.0, h.2, h.3), h.4.0);
    finite = h.4.1;
  }

  mixed_member : (v u : List V) → Contains rows v → Contains rows u
      → IsCombination R (suc vars) rows (mixed R p.left p.right v u)
  mixed_member v u cv cu =
      IsCombination-joined laws (suc vars) rows (scaled R (dot R p.left u) v) (scaled R (dot R p.right v) u)
      (IsCombination-scaled laws (suc vars) rows (dot R p.left u) v
      (IsCombination-contained laws (suc vars) rows v w cv))
      (IsCombination-scaled laws (suc vars) rows (dot R p.right v) u
      (IsCombination-contained laws (suc vars) rows u w cu))

  from_both : Any (IsDroppedPoint R p) rows → Any (HasRight R p) rows
      → HasPoint R (InGuard R (IsCombination R (suc vars) rows) p)
  from_both d r = record { point = m; member = (mixed_member v u cv cu, is_true); finite = finite }
    where
      u : List V
      u = d.1

      v : List V
      v = r.1

      cu : Contains rows u
      cu = (d.0, d.2, d.3)

      cv : Contains rows v
      cv = (r.0, r.2, r.3)

      same : length v ≡ length u
      same = lengths v cv ∙ sym (lengths u cu)

      m : List V
      m = mixed R p.left p.right v u

      fails : HoldsOf R p.left p.right u → ⊥
      fails h = d.4.0 ((at_row u cu).0 h)

      above : Le R (dot R p.right u) (dot R p.left u)
      above = ⊎_elim (λ h. absurd (fails h)) (λ h. h) (le_total laws (dot R p.left u) (dot R p.right u))

      wide_m : length m ≡ suc vars
      wide_m = length-mixed laws p.left p.right v u same ∙ lengths v cv

      is_true : IsTrueAt R p m
      is_true =
          (truth laws p.left p.right m (inside.left ∙ sym wide_m) (inside.right ∙ sym wide_m)).0
          (HoldsOf-mixed laws p.left p.right v u same ((at_row v cv).1 r.4.0) above)

      finite : entry R m 0 ≢ R.zero
      finite e =
          plus_finite laws (R.times (dot R p.left u) (entry R v 0)) (R.times (dot R p.right v) (entry R u 0))
          (times_finite laws (dot R p.right v) (entry R u 0) r.4.1 d.4.1)
          (sym (entry-mixed laws p v u 0 same) ∙ e)

  s : Stepped laws (suc vars) p.left p.right rows
  s = stepped laws (suc vars) p.left p.right rows

  others_wide : AreWide (suc vars) s.others
  others_wide k d l = ⊎_elim
      (λ q. lengths (get_or s.others k d) q.0)
      (λ q. ap length q.6 ∙ length-mixed laws p.left p.right q.0 q.1 (lengths q.0 q.2 ∙ sym (lengths q.1 q.3))
      ∙ lengths q.0 q.2)
      (s.step.only (get_or s.others k d) (Contains-get_or s.others k d l))

  -- what a row with a finite coordinate 0 among those of the step comes from
  from_other : (g : List V) → Contains s.others g → entry R g 0 ≢ R.zero
      → Any (IsKeptPoint R p) rows ⊎ (Any (IsDroppedPoint R p) rows × Any (HasRight R p) rows)
  from_other g c f = ⊎_elim
      (λ q. let k = q.0 in inl (k.0, g, k.1, k.2, ((at_row g k).0 q.1, f)))
      (λ q.
      let v = q.0 in
      let u = q.1 in
      let cv = q.2 in
      let cu = q.3 in
      let holds = (at_row v cv).0 q.4 in
      let same = lengths v cv ∙ sym (lengths u cu) in
      let is = ap (λ x. entry R x 0) q.7 ∙ entry-mixed laws p v u 0 same in ⊎_elim
      (λ z.
      let rest : entry R g 0 ≡ R.plus (R.times (dot R p.left u) (entry R v 0)) R.zero =
      is ∙ ap (λ e. R.plus (R.times (dot R p.left u) (entry R v 0)) (R.times (dot R p.right v) e)) z
      ∙ ap (R.plus (R.times (dot R p.left u) (entry R v 0))) (times_zero laws (dot R p.right v)) in
      inl (
        cv.0,
        v,
        cv.1,
        cv.2,
        (
          holds,
          λ e. f (rest ∙ ap (λ x. R.plus (R.times (dot R p.left u) x) R.zero) e
              ∙ ap (λ x. R.plus x R.zero) (times_zero laws (dot R p.left u)) ∙ laws.zero_neutral R.zero),
        ),
      ))
      (λ fu. inr ((cu.0, u, cu.1, cu.2, (λ t. q.6 ((at_row u cu).1 t), fu)), (cv.0, v, cv.1, cv.2, (holds, q.5))))
      (laws.discrete (entry R u 0) R.zero))
      (s.parents g c)

  to_rows : HasPoint R (InGuard R (IsCombination R (suc vars) rows) p)
      → Any (IsKeptPoint R p) rows ⊎ (Any (IsDroppedPoint R p) rows × Any (HasRight R p) rows)
  to_rows h = ⊎_elim
      (λ a. from_other a.1 (a.0, a.2, a.3) a.4)
      (λ none. absurd (no_point_from_rows laws numbers vars s.others others_wide none
      (record { point = h.point; member = in_others; finite = h.finite })))
      (finite_decided laws numbers vars s.others)
    where
      wide_point : length h.point ≡ suc vars
      wide_point = IsCombination-length laws (suc vars) rows h.point w h.member.0

      in_others : IsCombination R (suc vars) s.others h.point
      in_others =
          (step_is_guard laws (suc vars) p.left p.right rows s.others w others_wide s.step h.point).1 (
            h.member.0,
            (truth laws p.left p.right h.point (inside.left ∙ sym wide_point)
                (inside.right ∙ sym wide_point)).1 h.member.1,
          )

  -- A guard leaves a point exactly where it keeps one, or drops one while some kept row has a finite right side.
  pub guard_point : HasPoint R (InGuard R (IsCombination R (suc vars) rows) p)
      ↔ (Any (IsKeptPoint R p) rows ⊎ (Any (IsDroppedPoint R p) rows × Any (HasRight R p) rows))
  guard_point = (to_rows, λ h. ⊎_elim from_kept (λ b. from_both b.0 b.1) h)
