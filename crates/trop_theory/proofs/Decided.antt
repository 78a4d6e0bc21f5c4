-- Whether a vector is a combination of rows is decided.
use Rattle.std.proofs.Common.{◌≡◌, ◌≢◌, ◌⊎◌, ◌<◌, ℕ, zero, suc, List, [], ◌∷◌, length, inl, inr, ⊎_elim, sym, arith, subst, get_or}
use Rattle.std.specs.Prelude.{All, Any}
use Rattle.std.proofs.lemmas.List.{get_or_past}
use Rattle.std.proofs.lemmas.Bool.{cases_lt}
use Rattle.trop_theory.specs.Semiring.{Semiring, SemiringLaws, Le}
use Rattle.trop_theory.specs.Vectors.{entry, scaled, Below}
use Rattle.trop_theory.specs.Combinations.{IsCombination}
use Rattle.trop_theory.specs.Residual.{Meets}
use Rattle.trop_theory.proofs.Order.{zero_below}
use Rattle.trop_theory.proofs.Residual.{met_from_IsCombination, IsCombination_from_met, none_meets, meets_from_below, below_from_meets}
use Rattle.plain_lemmas.proofs.Lists.{Any-head, Any-cons, Any-decided}
use Rattle.plain_lemmas.proofs.Decisions.{Decided, all_or_some}

module _ {V : Type 0} {R : Semiring V} (laws : SemiringLaws R) where
  pub Below-decided : (x y : List V) → Decided (Below R x y)
  Below-decided x y = ⊎_elim
      (λ h. inl (λ i. ⊎_elim (λ l. h i l) (λ l. subst (λ v. Le R v (entry R y i)) (sym (get_or_past x i R.zero l))
      (zero_below laws (entry R y i))) (cases_lt i (length x))))
      (λ s. inr (λ b. s.2 (b s.0)))
      (all_or_some (λ i. Le R (entry R x i) (entry R y i))
      (λ i. laws.discrete (R.plus (entry R x i) (entry R y i)) (entry R y i)) (length x))

  pub Meets-decided : (x : List V) (t : ℕ) → entry R x t ≢ R.zero → (g : List V) → Decided (Meets R x t g)
  Meets-decided x t f g = ⊎_elim
      (λ z. inr (none_meets laws x g t z f))
      (λ gf. ⊎_elim
      (λ b. inl (meets_from_below laws x g t gf b))
      (λ nb. inr (λ m. nb (below_from_meets laws x g t gf m)))
      (Below-decided (scaled R (R.times (entry R x t) (R.inverse (entry R g t))) g) x))
      (laws.discrete (entry R g t) R.zero)

  pub IsCombination-decided : (n : ℕ) (rows : List (List V)) (x : List V) → All (λ g. length g ≡ n) rows →
      length x ≡ n → Decided (IsCombination R n rows x)
  IsCombination-decided n rows x w l = ⊎_elim
      (λ h. inl (IsCombination_from_met laws n rows x w l
      (λ t f. ⊎_elim (λ lt. h t lt f) (λ le. absurd (f (get_or_past x t R.zero (omega arith)))) (cases_lt t n))))
      (λ s. inr (λ c. s.2 (λ f. met_from_IsCombination laws n rows x w c s.0 f)))
      (all_or_some (λ t. entry R x t ≢ R.zero → Any (Meets R x t) rows) each n)
    where
      each : (t : ℕ) → Decided (entry R x t ≢ R.zero → Any (Meets R x t) rows)
      each t = ⊎_elim
          (λ z. inl (λ f. absurd (f z)))
          (λ f. ⊎_elim (λ a. inl (λ f'. a)) (λ na. inr (λ h. na (h f)))
          (Any-decided (Meets R x t) (Meets-decided x t f) rows))
          (laws.discrete (entry R x t) R.zero)
