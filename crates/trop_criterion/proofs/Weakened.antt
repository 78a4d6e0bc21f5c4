-- A solution whose entries in a set are multiplied by `delta` is a solution, where the set keeps the tangent
-- hyperedges.
use Rattle.std.proofs.Common.{◌≡◌, ◌≢◌, ◌<◌, ℕ, zero, suc, Bool, true, false, cond, List, [], ◌∷◌, length, ⊎_elim, refl, sym, ap, ◌∙◌, arith, subst, get_or}
use Rattle.std.specs.Prelude.{IsTrue, All}
use Rattle.std.proofs.lemmas.List.{get_or_past}
use Rattle.std.proofs.lemmas.Bool.{cases_lt}
use Rattle.trop_theory.specs.Semiring.{Semiring, SemiringLaws, Le}
use Rattle.trop_theory.specs.Vectors.{entry, dot, Below}
use Rattle.trop_theory.specs.Inequalities.{Inequality, IsTrueAt, IsIn, Solves}
use Rattle.trop_theory.proofs.Order.{le_refl, le_trans, le_antisym, times_mono, times_mono_left, times_zero, zero_below, undo_times, delta_times, times_swap}
use Rattle.trop_theory.proofs.Truth.{truth, term_below, some_term}
use Rattle.trop_criterion.specs.Tangents.{Attains}
use Rattle.trop_criterion.proofs.Reaching.{KeepsTangent}
use Rattle.plain_lemmas.proofs.Decisions.{decide_true, decide_not, decide_both, stable, some_below}

module _ {V : Type 0} (R : Semiring V) where
  -- the entries in the set are multiplied by delta
  abbrev pub weakened : (ℕ → Bool) → List V → List V
  weakened set [] = []
  weakened set (a ∷ x) = cond (set 0) (R.times R.delta a) a ∷ weakened (λ i. set (suc i)) x

  pub length-weakened : (set : ℕ → Bool) (x : List V) → length (weakened set x) ≡ length x
  length-weakened set [] = refl
  length-weakened set (a ∷ x) = ap suc (length-weakened (λ i. set (suc i)) x)

  pub weakened_out : (set : ℕ → Bool) (x : List V) (i : ℕ) → (IsTrue (set i) → ⊥) →
      entry R (weakened set x) i ≡ entry R x i
  weakened_out set [] i h = refl
  weakened_out set (a ∷ x) zero h = elim (set 0) as (λ b. (IsTrue b → ⊥) → cond b (R.times R.delta a) a ≡ a)
      [ true ↦ λ f. absurd (f refl) | false ↦ λ f. refl ] h
  weakened_out set (a ∷ x) (suc i) h = weakened_out (λ i. set (suc i)) x i h

module _ {V : Type 0} {R : Semiring V} (laws : SemiringLaws R) where
  pub weakened_in : (set : ℕ → Bool) (x : List V) (i : ℕ) → IsTrue (set i) →
      entry R (weakened R set x) i ≡ R.times R.delta (entry R x i)
  weakened_in set [] i h = sym (times_zero laws R.delta)
  weakened_in set (a ∷ x) zero h = ap (λ b. cond b (R.times R.delta a) a) h
  weakened_in set (a ∷ x) (suc i) h = weakened_in (λ i. set (suc i)) x i h

  pub Below-weakened : (set : ℕ → Bool) (x : List V) → Below R (weakened R set x) x
  Below-weakened set x i =
      ⊎_elim
      (λ h. subst (λ e. Le R e (entry R x i)) (sym (weakened_in set x i h)) (delta_times laws (entry R x i)))
      (λ h. subst (λ e. Le R e (entry R x i)) (sym (weakened_out R set x i h)) (le_refl laws _))
      (decide_true (set i))

  -- a coordinate that reaches a finite sum is a coordinate of the vector
  pub attains_within : (side x : List V) (j : ℕ) → dot R side x ≢ R.zero → Attains R side x j → j < length x
  attains_within side x j f h = ⊎_elim (λ l. l) (λ l.
      absurd (f (sym h ∙ ap (R.times (entry R side j)) (get_or_past x j R.zero l) ∙ times_zero laws _)))
      (cases_lt j (length x))

  module _ (set : ℕ → Bool) (p : Inequality V) (x : List V) (left : length p.left ≡ length x)
      (right : length p.right ≡ length x) (holds : IsTrueAt R p x) (keeps : KeepsTangent R x set p) where
    -- the right side at the weakened vector reaches delta times its old sum
    reaches_less : (i : ℕ) → i < length x → (j : ℕ) × (j < length x) × Le R (R.times R.delta (dot R p.right x))
        (R.times (entry R p.right j) (entry R (weakened R set x) j))
    reaches_less i l =
        let r = some_term laws p.right x right (omega arith) in (
          r.0,
          r.1,
          ⊎_elim
              (λ h. subst (Le R (R.times R.delta (dot R p.right x)))
              (ap (R.times R.delta) r.2 ∙ times_swap laws R.delta _ _ ∙ ap (R.times (entry R p.right r.0))
              (sym (weakened_in set x r.0 h))) (le_refl laws _))
              (λ h. subst (Le R (R.times R.delta (dot R p.right x)))
              (r.2 ∙ ap (R.times (entry R p.right r.0)) (sym (weakened_out R set x r.0 h)))
              (delta_times laws (dot R p.right x)))
              (decide_true (set r.0)),
        )

    -- a coordinate outside of the set whose term is the whole sum is in the head
    not_all : (i : ℕ) → (IsTrue (set i) → ⊥) → dot R p.right x ≢ R.zero →
        R.times (entry R p.left i) (entry R x i) ≡ dot R p.right x → i < length x →
        ((j : ℕ) → j < length x → Attains R p.right x j × (IsTrue (set j) → ⊥) → ⊥) → ⊥
    not_all i out f e l none =
        let equal : dot R p.left x ≡ dot R p.right x =
        le_antisym laws _ _ ((truth laws p.left p.right x left right).1 holds)
        (subst (λ v. Le R v (dot R p.left x)) e (term_below laws p.left x left i l)) in
        out (keeps (record { equal = equal; finite = f })
        (λ j h. stable (decide_true (set j)) (λ g. none j (attains_within p.right x j f h) (h, g)))
        i (e ∙ sym equal))

    term_in : (i : ℕ) → i < length x → IsTrue (set i) →
        Le R (R.times (entry R p.left i) (entry R (weakened R set x) i)) (R.times R.delta (dot R p.right x))
    term_in i l h =
        subst (λ v. Le R v (R.times R.delta (dot R p.right x)))
        (times_swap laws R.delta _ _ ∙ ap (R.times (entry R p.left i)) (sym (weakened_in set x i h)))
        (times_mono laws R.delta _ _ (le_trans laws _ _ _ (term_below laws p.left x left i l)
        ((truth laws p.left p.right x left right).1 holds)))

    -- where all of the tail is weakened, each term of the left is at most delta times the sum
    term_less : (i : ℕ) → i < length x → ((j : ℕ) → j < length x → Attains R p.right x j × (IsTrue (set j) → ⊥) → ⊥) →
        Le R (R.times (entry R p.left i) (entry R (weakened R set x) i)) (R.times R.delta (dot R p.right x))
    term_less i l none = ⊎_elim (term_in i l) outside (decide_true (set i))
      where
        below : Le R (R.times (entry R p.left i) (entry R x i)) (dot R p.right x)
        below = le_trans laws _ _ _ (term_below laws p.left x left i l)
            ((truth laws p.left p.right x left right).1 holds)

        same : (out : IsTrue (set i) → ⊥) → Le R (R.times (entry R p.left i) (entry R x i))
            (R.times R.delta (dot R p.right x))
        same out = ⊎_elim
            (λ e. ⊎_elim
            (λ z. subst (λ v. Le R v (R.times R.delta (dot R p.right x))) (sym (e ∙ z)) (zero_below laws _))
            (λ f. absurd (not_all i out f e l none))
            (laws.discrete (dot R p.right x) R.zero))
            (λ f. laws.delta_next _ _ below f)
            (laws.discrete (R.times (entry R p.left i) (entry R x i)) (dot R p.right x))

        outside : (IsTrue (set i) → ⊥) → Le R (R.times (entry R p.left i) (entry R (weakened R set x) i))
            (R.times R.delta (dot R p.right x))
        outside out = subst (λ v. Le R (R.times (entry R p.left i) v) (R.times R.delta (dot R p.right x)))
            (sym (weakened_out R set x i out)) (same out)

    pub IsTrueAt-weakened : IsTrueAt R p (weakened R set x)
    IsTrueAt-weakened i l =
        let n = length-weakened R set x in
        let k : i < length x = omega arith in
        ⊎_elim
        (λ s. (
          s.0,
          omega (arith, s.1),
          le_trans laws _ _ _ (times_mono laws (entry R p.left i) _ _ (Below-weakened set x i))
              (le_trans laws _ _ _ (term_below laws p.left x left i k)
              (subst (Le R (dot R p.left x)) (sym s.2.0 ∙ ap (R.times (entry R p.right s.0))
              (sym (weakened_out R set x s.0 s.2.1))) ((truth laws p.left p.right x left right).1 holds))),
        ))
        (λ none. let r = reaches_less i k in (r.0, omega (arith, r.1), le_trans laws _ _ _ (term_less i k none) r.2))
        (some_below (λ j. Attains R p.right x j × (IsTrue (set j) → ⊥))
        (λ j. decide_both (laws.discrete _ _) (decide_not (decide_true (set j)))) (length x))

  pub Solves-weakened : (n : ℕ) (system : List (Inequality V)) (set : ℕ → Bool) (x : List V) → All (IsIn n) system →
      Solves R n system x → All (KeepsTangent R x set) system → Solves R n system (weakened R set x)
  Solves-weakened n system set x inside solves keeps = record {
    wide = length-weakened R set x ∙ solves.wide;
    holds = λ k d l. IsTrueAt-weakened set (get_or system k d) x ((inside k d l).left ∙ sym solves.wide)
        ((inside k d l).right ∙ sym solves.wide) (solves.holds k d l) (keeps k d l);
  }
