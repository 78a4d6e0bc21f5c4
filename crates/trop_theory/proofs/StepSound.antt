-- The rows that the step gives are in the guarded cone, so their combinations are exactly it.
use Rattle.std.proofs.Common.{◌≡◌, ℕ, zero, suc, List, [], ◌∷◌, length, ⊎_elim, sym, ◌∙◌, refl, subst, get_or}
use Rattle.std.specs.Prelude.{All, Contains, ◌↔◌}
use Rattle.std.proofs.lemmas.List.{length-map, get_or_default}
use Rattle.std.proofs.lemmas.List.Elements.{All-head, All-tail, All-contains}
use Rattle.trop_theory.specs.Semiring.{Semiring, SemiringLaws, Le}
use Rattle.trop_theory.specs.Vectors.{scaled, bottom, dot}
use Rattle.trop_theory.specs.Combinations.{combined, IsCombination}
use Rattle.trop_theory.proofs.Truth.{HoldsOf}
use Rattle.trop_theory.proofs.StepComplete.{IsStep, complete}
use Rattle.trop_theory.proofs.Order.{le_total, plus_zero, times_zero}
use Rattle.std.proofs.Common.{ap₂}
use Rattle.trop_theory.proofs.Combinations.{length-combined, IsCombination-joined, IsCombination-scaled}
use Rattle.trop_theory.proofs.Canonical.{IsCombination-least}
use Rattle.trop_theory.proofs.SameCones.{IsCombination-contained}
use Rattle.trop_theory.proofs.StepLaws.{HoldsOf-joined, HoldsOf-scaled, HoldsOf-mixed}

module _ {V : Type 0} {R : Semiring V} (laws : SemiringLaws R) (n : ℕ) where
  dot-bottom : (b : List V) (m : ℕ) → dot R b (bottom R m) ≡ R.zero
  dot-bottom [] m = refl
  dot-bottom (c ∷ b) zero = refl
  dot-bottom (c ∷ b) (suc m) = ap₂ R.plus (times_zero laws c) (dot-bottom b m) ∙ plus_zero laws R.zero

  HoldsOf-bottom : (a b : List V) → HoldsOf R a b (bottom R n)
  HoldsOf-bottom a b = subst (λ t. Le R t (dot R b (bottom R n))) (sym (dot-bottom a n)) (laws.zero_neutral _)

  -- an inequality that holds of each row holds of each combination
  HoldsOf-combined : (a b : List V) (cs : List V) (rows : List (List V)) → All (λ g. length g ≡ n) rows →
      All (HoldsOf R a b) rows → HoldsOf R a b (combined R n cs rows)
  HoldsOf-combined a b [] rows w h = HoldsOf-bottom a b
  HoldsOf-combined a b (c ∷ cs) [] w h = HoldsOf-bottom a b
  HoldsOf-combined a b (c ∷ cs) (g ∷ rows) w h =
      HoldsOf-joined laws a b (scaled R c g) (combined R n cs rows)
      (length-map g (R.times c) ∙ All-head (λ g. length g ≡ n) g rows w
      ∙ sym (length-combined laws n cs rows (All-tail (λ g. length g ≡ n) g rows w)))
      (HoldsOf-scaled laws a b g c (All-head (HoldsOf R a b) g rows h))
      (HoldsOf-combined a b cs rows (All-tail (λ g. length g ≡ n) g rows w) (All-tail (HoldsOf R a b) g rows h))

  pub step_is_guard : (a b : List V) (rows others : List (List V)) → All (λ g. length g ≡ n) rows →
      All (λ g. length g ≡ n) others → IsStep R a b rows others → (x : List V) →
      IsCombination R n others x ↔ (IsCombination R n rows x × HoldsOf R a b x)
  step_is_guard a b rows others w v step x = (
    λ h. (
      IsCombination-least laws n others rows x w (λ k d l. inside (get_or others k d)
          (k, l, get_or_default others k (get_or others k d) d l)) h,
      subst (HoldsOf R a b) (sym h.is_sum) (HoldsOf-combined a b h.coefficients others v
          (λ k d l. holds (get_or others k d) (k, l, get_or_default others k (get_or others k d) d l))),
    ),
    λ g. complete laws n a b rows others w v step x g.0 g.1,
  )
    where
      lengths : (y : List V) → Contains rows y → length y ≡ n
      lengths y h = All-contains (λ g. length g ≡ n) rows y w h

      inside : (y : List V) → Contains others y → IsCombination R n rows y
      inside y h = ⊎_elim
          (λ p. IsCombination-contained laws n rows y w p.0)
          (λ q. subst (IsCombination R n rows) (sym q.6) (IsCombination-joined laws n rows _ _
          (IsCombination-scaled laws n rows (dot R a q.1) q.0 (IsCombination-contained laws n rows q.0 w q.2))
          (IsCombination-scaled laws n rows (dot R b q.0) q.1 (IsCombination-contained laws n rows q.1 w q.3))))
          (step.only y h)

      holds : (y : List V) → Contains others y → HoldsOf R a b y
      holds y h = ⊎_elim
          (λ p. p.1)
          (λ q. subst (HoldsOf R a b) (sym q.6) (HoldsOf-mixed laws a b q.0 q.1
          (lengths q.0 q.2 ∙ sym (lengths q.1 q.3)) q.4
          (⊎_elim (λ l. absurd (q.5 l)) (λ l. l) (le_total laws (dot R a q.1) (dot R b q.1)))))
          (step.only y h)
