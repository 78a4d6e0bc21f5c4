-- What is true at each row of each inequality of a claim, and whether rows have a point.
use Rattle.std.proofs.Common.{◌≡◌, ◌≤◌, ⊎_elim, ℕ, zero, suc, Bool, List, [], ◌∷◌, length, subst₂, arith}
use Rattle.std.specs.Prelude.{All, Any, IsTrue, ◌↔◌, ◌≢◌, ◌⊎◌}
use Rattle.std.proofs.lemmas.List.Elements.{All-head, All-tail, All-cons, All-nil}
use Rattle.trop_theory.specs.Semiring.{Semiring, SemiringLaws}
use Rattle.trop_theory.specs.Vectors.{entry, dot, AreWide}
use Rattle.trop_theory.specs.Numbers.{Numbering, NumericLaws}
use Rattle.trop_theory.specs.Inequalities.{Inequality, IsTrueAt, InGuard, IsIn}
use Rattle.trop_theory.specs.Combinations.{IsCombination}
use Rattle.prog_theory.specs.States.{Term}
use Rattle.prog_theory.specs.Statements.{AtMost, AtLeast, Same, Claim}
use Rattle.cone_reports.specs.Images.{HasPoint}
use Rattle.cone_reports.specs.Sides.{side, at_most, Ordered}
use Rattle.cone_reports.specs.Readings.{related, claim_inequalities, IsProvenOn}
use Rattle.cone_reports.proofs.Sides.{length-side}
use Rattle.cone_reports.proofs.Truths.{true_by_sums}
use Rattle.cone_reports.proofs.Checks.{proven_is_rows}
use Rattle.cone_reports.proofs.EdgeLists.{point_from_row, no_point_from_rows, finite_decided}
use Rattle.cone_claims.specs.Points.{IsKeptPoint, IsDroppedPoint, HasRight}
use Rattle.cone_claims.proofs.GuardPoints.{guard_point}

module _ {V : Type 0} {R : Semiring V} (laws : SemiringLaws R) (reversed : Bool) (a b x : List V)
    (la : length a ≡ length x) (lb : length b ≡ length x) where
  abbrev T : Inequality V → Type 0
  T p = IsTrueAt R p x

  there : IsTrueAt R (at_most reversed a b) x ↔ Ordered R reversed (dot R a x) (dot R b x)
  there = true_by_sums laws reversed a b x la lb

  back : IsTrueAt R (at_most reversed b a) x ↔ Ordered R reversed (dot R b x) (dot R a x)
  back = true_by_sums laws reversed b a x lb la

  -- the inequalities of a claim are true at a vector exactly where the sums of its sides are so ordered
  pub true_at_most : Ordered R reversed (dot R a x) (dot R b x) ↔ All T (related reversed AtMost a b)
  true_at_most = (
    λ h. All-cons T (at_most reversed a b) [] (there.1 h) (All-nil T),
    λ h. there.0 (All-head T (at_most reversed a b) [] h),
  )

  pub true_at_least : Ordered R reversed (dot R b x) (dot R a x) ↔ All T (related reversed AtLeast a b)
  true_at_least = (
    λ h. All-cons T (at_most reversed b a) [] (back.1 h) (All-nil T),
    λ h. back.0 (All-head T (at_most reversed b a) [] h),
  )

  pub true_same : (Ordered R reversed (dot R a x) (dot R b x) × Ordered R reversed (dot R b x) (dot R a x))
      ↔ All T (related reversed Same a b)
  true_same = (
    λ h. All-cons T (at_most reversed a b) (at_most reversed b a ∷ []) (there.1 h.0)
        (All-cons T (at_most reversed b a) [] (back.1 h.1) (All-nil T)),
    λ h. (
      there.0 (All-head T (at_most reversed a b) (at_most reversed b a ∷ []) h),
      back.0 (All-head T (at_most reversed b a) [] (All-tail T (at_most reversed a b) (at_most reversed b a ∷ []) h)),
    ),
  )

module _ {V : Type 0} {R : Semiring V} {N : Numbering V} {reversed : Bool} (laws : SemiringLaws R)
    (numbers : NumericLaws R N reversed) where
  side_long : (n : ℕ) → 1 ≤ n → (ts : List Term) → length (side R N n ts) ≡ n
  side_long zero some ts = absurd (omega arith)
  side_long (suc vars) some ts = length-side laws numbers vars ts

  -- the inequalities of a claim are judged by the sums of its sides
  module _ (row : List V) (some : 1 ≤ length row) (ls rs : List Term) (x y : V) (b : Bool)
      (is_x : x ≡ dot R (side R N (length row) ls) row) (is_y : y ≡ dot R (side R N (length row) rs) row) where
    abbrev l : List V
    l = side R N (length row) ls

    abbrev r : List V
    r = side R N (length row) rs

    pub at_most_judged : IsTrue b ↔ Ordered R reversed x y →
        IsTrue b ↔ All (λ p. IsTrueAt R p row) (related reversed AtMost l r)
    at_most_judged h =
        let t = true_at_most laws reversed l r row (side_long (length row) some ls) (side_long (length row) some rs) in
        let o : IsTrue b ↔ Ordered R reversed (dot R l row) (dot R r row) =
        subst₂ (λ u v. IsTrue b ↔ Ordered R reversed u v) is_x is_y h in
        (λ k. t.0 (o.0 k), λ k. o.1 (t.1 k))

    pub at_least_judged : IsTrue b ↔ Ordered R reversed y x →
        IsTrue b ↔ All (λ p. IsTrueAt R p row) (related reversed AtLeast l r)
    at_least_judged h =
        let t = true_at_least laws reversed l r row (side_long (length row) some ls) (side_long (length row) some rs) in
        let o : IsTrue b ↔ Ordered R reversed (dot R r row) (dot R l row) =
        subst₂ (λ u v. IsTrue b ↔ Ordered R reversed v u) is_x is_y h in
        (λ k. t.0 (o.0 k), λ k. o.1 (t.1 k))

    pub same_judged : IsTrue b ↔ (Ordered R reversed x y × Ordered R reversed y x)
        → IsTrue b ↔ All (λ p. IsTrueAt R p row) (related reversed Same l r)
    same_judged h =
        let t = true_same laws reversed l r row (side_long (length row) some ls) (side_long (length row) some rs) in
        let o : IsTrue b ↔ (Ordered R reversed (dot R l row) (dot R r row) × Ordered R reversed (dot R r row)
        (dot R l row)) =
        subst₂ (λ u v. IsTrue b ↔ (Ordered R reversed u v × Ordered R reversed v u)) is_x is_y h in
        (λ k. t.0 (o.0 k), λ k. o.1 (t.1 k))

  -- a claim is proven by rows exactly where its inequalities are true at each of them
  pub proven_each : (n : ℕ) → 1 ≤ n → (claim : Claim) (rows : List (List V)) → AreWide n rows
      → All (λ g. All (λ p. IsTrueAt R p g) (claim_inequalities R N reversed n claim)) rows
      ↔ IsProvenOn R N reversed n (IsCombination R n rows) claim
  proven_each zero some claim rows w = absurd (omega arith)
  proven_each (suc vars) some claim rows w =
      let r = proven_is_rows laws numbers vars claim rows w in (
        λ h. r.1 (λ j e m k d l. h k d l j e m),
        λ h k d l j e m. r.0 h j e m k d l,
      )

  -- rows have a point among their combinations exactly where one of them is a point
  pub point_rows : (n : ℕ) → 1 ≤ n → (rows : List (List V)) → AreWide n rows
      → Any (λ g. entry R g 0 ≢ R.zero) rows ↔ HasPoint R (IsCombination R n rows)
  point_rows zero some rows w = absurd (omega arith)
  point_rows (suc vars) some rows w = (
    point_from_row laws numbers vars rows w,
    λ h. ⊎_elim (λ a. a) (λ none. absurd (no_point_from_rows laws numbers vars rows w none h))
        (finite_decided laws numbers vars rows),
  )

  pub guard_rows : (n : ℕ) → 1 ≤ n → (p : Inequality V) → IsIn n p → (rows : List (List V)) → AreWide n rows
      → HasPoint R (InGuard R (IsCombination R n rows) p)
      ↔ (Any (IsKeptPoint R p) rows ⊎ (Any (IsDroppedPoint R p) rows × Any (HasRight R p) rows))
  guard_rows zero some p inside rows w = absurd (omega arith)
  guard_rows (suc vars) some p inside rows w = guard_point laws numbers vars p inside rows w
