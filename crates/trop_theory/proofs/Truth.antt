-- The comparison of the sums says that each term of the left is at most some term of the right.
use Rattle.std.proofs.Common.{◌≡◌, ◌<◌, ℕ, zero, suc, List, [], ◌∷◌, length, ⊎_elim, ◌∙◌, arith, subst}
use Rattle.std.specs.Prelude.{◌↔◌}
use Rattle.trop_theory.specs.Semiring.{Semiring, SemiringLaws, Le}
use Rattle.trop_theory.specs.Vectors.{entry, dot}
use Rattle.trop_theory.specs.Inequalities.{IsTrueAt}
use Rattle.trop_theory.proofs.Order.{le_trans, le-plus_left, le-plus_right, plus-least, zero_below}

-- the sum of the left is at most that of the right; `truth` says that this is truth
abbrev pub HoldsOf : {V : Type 0} → Semiring V → List V → List V → List V → Type 0
HoldsOf R a b x = Le R (dot R a x) (dot R b x)

module _ {V : Type 0} {R : Semiring V} (laws : SemiringLaws R) where
  -- a term is at most the sum
  pub term_below : (c x : List V) → length c ≡ length x → (i : ℕ) → i < length x →
      Le R (R.times (entry R c i) (entry R x i)) (dot R c x)
  term_below [] [] e i l = absurd (omega arith)
  term_below [] (b ∷ x) e i l = absurd (omega arith)
  term_below (a ∷ c) [] e i l = absurd (omega arith)
  term_below (a ∷ c) (b ∷ x) e zero l = le-plus_left laws _ _
  term_below (a ∷ c) (b ∷ x) e (suc i) l = le_trans laws _ _ _ (term_below c x (omega arith) i (omega arith))
      (le-plus_right laws _ _)

  -- the sum is one of its terms
  pub some_term : (c x : List V) → length c ≡ length x → 0 < length x →
      (j : ℕ) × (j < length x) × (dot R c x ≡ R.times (entry R c j) (entry R x j))
  some_term [] [] e l = absurd (omega arith)
  some_term [] (b ∷ x) e l = absurd (omega arith)
  some_term (a ∷ c) [] e l = absurd (omega arith)
  some_term (a ∷ []) (b ∷ []) e l = (0, omega arith, laws.plus_comm _ _ ∙ laws.zero_neutral _)
  some_term (a ∷ []) (b ∷ (d ∷ x)) e l = absurd (omega arith)
  some_term (a ∷ (f ∷ c)) (b ∷ []) e l = absurd (omega arith)
  some_term (a ∷ (f ∷ c)) (b ∷ (d ∷ x)) e l =
      let r = some_term (f ∷ c) (d ∷ x) (omega arith) (omega arith) in
      ⊎_elim (λ p. (0, omega arith, p)) (λ q. (suc r.0, omega (arith, r.1), q ∙ r.2))
      (laws.selective (R.times a b) (dot R (f ∷ c) (d ∷ x)))

  -- a bound on each term bounds the sum
  sum_below : (c x : List V) (m : V) → ((i : ℕ) → i < length x → Le R (R.times (entry R c i) (entry R x i)) m) →
      Le R (dot R c x) m
  sum_below [] x m h = zero_below laws m
  sum_below (a ∷ c) [] m h = zero_below laws m
  sum_below (a ∷ c) (b ∷ x) m h = plus-least laws _ _ _ (h 0 (omega arith))
      (sum_below c x m (λ i l. h (suc i) (omega arith)))

  pub truth : (a b x : List V) → length a ≡ length x → length b ≡ length x →
      HoldsOf R a b x ↔ IsTrueAt R (record { left = a; right = b }) x
  truth a b x ea eb = (
    λ h i l.
        let r = some_term b x eb (omega arith) in (
          r.0,
          r.1,
          subst (λ t. Le R (R.times (entry R a i) (entry R x i)) t) r.2
              (le_trans laws _ _ _ (term_below a x ea i l) h),
        ),
    λ h. sum_below a x (dot R b x) (λ i l. let r = h i l in le_trans laws _ _ _ r.2 (term_below b x eb r.0 r.1)),
  )
