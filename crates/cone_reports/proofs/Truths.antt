-- The truth of an inequality between sides at the vector of a state is the order of their numbers.
use Rattle.std.proofs.Common.{◌≡◌, ℕ, suc, ℤ, Bool, true, false, List, length, sym, ◌∙◌, subst₂}
use Rattle.std.specs.Prelude.{◌≤ℤ◌, ◌↔◌, MatchBool}
use Rattle.trop_theory.specs.Semiring.{Semiring, SemiringLaws, Le}
use Rattle.trop_theory.specs.Vectors.{dot}
use Rattle.trop_theory.specs.Numbers.{Numbering, NumericLaws}
use Rattle.trop_theory.specs.Inequalities.{IsTrueAt}
use Rattle.trop_theory.proofs.Truth.{truth}
use Rattle.prog_theory.specs.States.{State, Term, value}
use Rattle.cone_reports.specs.Vectors.{vector}
use Rattle.prog_theory.specs.Fits.{FitsTerm}
use Rattle.cone_reports.specs.Sides.{term_side, at_most, Ordered, guard_inequality}
use Rattle.cone_reports.proofs.Entries.{length-vector}
use Rattle.cone_reports.proofs.Sides.{length-term_side, dot-term_side}

module _ {V : Type 0} {R : Semiring V} (laws : SemiringLaws R) where
  pub true_by_sums : (reversed : Bool) (a b x : List V) → length a ≡ length x → length b ≡ length x
      → IsTrueAt R (at_most reversed a b) x ↔ Ordered R reversed (dot R a x) (dot R b x)
  true_by_sums false a b x la lb = let t = truth laws a b x la lb in (t.1, t.0)
  true_by_sums true a b x la lb = let t = truth laws b a x lb la in (t.1, t.0)

module _ {V : Type 0} {R : Semiring V} {N : Numbering V} {reversed : Bool} (laws : SemiringLaws R)
    (numbers : NumericLaws R N reversed) (vars : ℕ) where
  pub order_of_numbers : (y z : ℤ) → (y ≤ℤ z) ↔ Ordered R reversed (N.of y) (N.of z)
  order_of_numbers y z = numbers.order (N.of y) (N.of z) y z (numbers.to-of y) (numbers.to-of z)

  -- sides of the numbers y and z
  pub at_most_is_order : (s : State) → length s ≡ vars → (a b : List V) (y z : ℤ) → length a ≡ suc vars
      → length b ≡ suc vars → dot R a (vector R N s) ≡ N.of y → dot R b (vector R N s) ≡ N.of z
      → IsTrueAt R (at_most reversed a b) (vector R N s) ↔ (y ≤ℤ z)
  at_most_is_order s l a b y z la lb p q =
      let w = length-vector laws numbers s vars l in
      let sums = true_by_sums laws reversed a b (vector R N s) (la ∙ sym w) (lb ∙ sym w) in
      let numbers_order = order_of_numbers y z in (
        λ h. numbers_order.1 (subst₂ (Ordered R reversed) p q (sums.0 h)),
        λ h. sums.1 (subst₂ (Ordered R reversed) (sym p) (sym q) (numbers_order.0 h)),
      )

  -- the inequality of a guard is true at the vectors of the states at which the guard is
  pub guard_is_order : (s : State) → length s ≡ vars → (l r : Term) → FitsTerm vars l → FitsTerm vars r
      → IsTrueAt R (guard_inequality R N reversed (suc vars) l r) (vector R N s) ↔ (value l s ≤ℤ value r s)
  guard_is_order s h l r fl fr =
      at_most_is_order s h (term_side R N (suc vars) l) (term_side R N (suc vars) r) (value l s) (value r s)
      (length-term_side laws numbers vars l) (length-term_side laws numbers vars r)
      (dot-term_side laws numbers vars s h l fl) (dot-term_side laws numbers vars s h r fr)
