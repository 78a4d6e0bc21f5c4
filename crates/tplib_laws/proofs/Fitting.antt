-- A system has the same solutions once its sides are cut or filled up to the width of its vectors.
use Rattle.std.proofs.Common.{◌≡◌, ◌<◌, ◌≤◌, ℕ, zero, suc, List, [], ◌∷◌, length, map, sym, refl, arith, subst}
use Rattle.std.specs.Prelude.{All, ◌↔◌}
use Rattle.std.proofs.lemmas.List.Elements.{All-nil, All-cons, All-head, All-tail, All-map}
use Rattle.trop_theory.specs.Semiring.{Semiring, SemiringLaws, Le}
use Rattle.trop_theory.specs.Vectors.{entry, row_size}
use Rattle.trop_theory.specs.Inequalities.{Inequality, IsTrueAt, IsIn, Solves, system_size}

-- the first n entries
abbrev pub fitted : {V : Type 0} → Semiring V → ℕ → List V → List V
fitted R zero x = []
fitted R (suc n) [] = R.zero ∷ fitted R n []
fitted R (suc n) (a ∷ x) = a ∷ fitted R n x

abbrev pub fitted_sides : {V : Type 0} → Semiring V → ℕ → Inequality V → Inequality V
fitted_sides R n p = record { left = fitted R n p.left; right = fitted R n p.right }

module _ {V : Type 0} {R : Semiring V} (laws : SemiringLaws R) where
  length-fitted : (n : ℕ) (x : List V) → length (fitted R n x) ≡ n
  length-fitted zero x = refl
  length-fitted (suc n) [] = omega (arith, length-fitted n [])
  length-fitted (suc n) (a ∷ x) = omega (arith, length-fitted n x)

  entry-fitted : (n : ℕ) (x : List V) (i : ℕ) → i < n → entry R (fitted R n x) i ≡ entry R x i
  entry-fitted zero x i l = absurd (omega arith)
  entry-fitted (suc n) [] zero l = refl
  entry-fitted (suc n) [] (suc i) l = entry-fitted n [] i (omega arith)
  entry-fitted (suc n) (a ∷ x) zero l = refl
  entry-fitted (suc n) (a ∷ x) (suc i) l = entry-fitted n x i (omega arith)

  size-fitted : (n : ℕ) (x : List V) → row_size R (fitted R n x) ≤ row_size R x
  size-fitted zero x = omega arith
  size-fitted (suc n) [] = omega (arith, laws.size_zero, size-fitted n [])
  size-fitted (suc n) (a ∷ x) = omega (arith, size-fitted n x)

  pub system_size-fitted : (n : ℕ) (system : List (Inequality V)) →
      system_size R (map (fitted_sides R n) system) ≤ system_size R system
  system_size-fitted n [] = omega arith
  system_size-fitted n (p ∷ system) = omega (
    arith,
    size-fitted n p.left,
    size-fitted n p.right,
    system_size-fitted n system,
  )

  pub IsIn-fitted : (n : ℕ) (system : List (Inequality V)) → All (IsIn n) (map (fitted_sides R n) system)
  IsIn-fitted n system = All-map (IsIn n) (fitted_sides R n) system
      (λ k d l. record { left = length-fitted n _; right = length-fitted n _ })

  le_same : (a b c d : V) → a ≡ c → b ≡ d → Le R a b → Le R c d
  le_same a b c d p q h = subst (λ v. Le R v d) p (subst (λ v. Le R a v) q h)

  times_fitted : (n : ℕ) (side x : List V) (i : ℕ) → length x ≡ n → i < length x →
      R.times (entry R (fitted R n side) i) (entry R x i) ≡ R.times (entry R side i) (entry R x i)
  times_fitted n side x i wide l = λ s. R.times (entry-fitted n side i (omega (arith, wide)) s) (entry R x i)

  true_fitted : (n : ℕ) (p : Inequality V) (x : List V) → length x ≡ n → IsTrueAt R p x →
      IsTrueAt R (fitted_sides R n p) x
  true_fitted n p x wide h i l = let r = h i l in (
    r.0,
    r.1,
    le_same _ _ _ _ (sym (times_fitted n p.left x i wide l))
        (sym (times_fitted n p.right x r.0 wide r.1)) r.2,
  )

  true_unfitted : (n : ℕ) (p : Inequality V) (x : List V) → length x ≡ n → IsTrueAt R (fitted_sides R n p) x →
      IsTrueAt R p x
  true_unfitted n p x wide h i l = let r = h i l in
      (r.0, r.1, le_same _ _ _ _ (times_fitted n p.left x i wide l) (times_fitted n p.right x r.0 wide r.1) r.2)

  all_true : (n : ℕ) (system : List (Inequality V)) (x : List V) → length x ≡ n →
      All (λ p. IsTrueAt R p x) (map (fitted_sides R n) system) → All (λ p. IsTrueAt R p x) system
  all_true n [] x wide h = All-nil (λ p. IsTrueAt R p x)
  all_true n (p ∷ system) x wide h =
      All-cons (λ p. IsTrueAt R p x) p system (true_unfitted n p x wide
      (All-head (λ p. IsTrueAt R p x) (fitted_sides R n p) (map (fitted_sides R n) system) h))
      (all_true n system x wide (All-tail (λ p. IsTrueAt R p x) (fitted_sides R n p) (map (fitted_sides R n) system) h))

  pub Solves-fitted : (n : ℕ) (system : List (Inequality V)) (x : List V) →
      Solves R n system x ↔ Solves R n (map (fitted_sides R n) system) x
  Solves-fitted n system x = (
    λ h. record {
      wide = h.wide;
      holds = All-map (λ p. IsTrueAt R p x) (fitted_sides R n) system
          (λ k d l. true_fitted n _ x h.wide (h.holds k d l));
    },
    λ h. record { wide = h.wide; holds = all_true n system x h.wide h.holds },
  )
