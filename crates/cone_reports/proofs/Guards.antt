-- The vectors of a generated cone at which an inequality is true are generated.
use Rattle.std.proofs.Common.{◌≡◌, ⊎_elim, ℕ, List, length, get_or, sym, ap, ◌∙◌}
use Rattle.std.specs.Prelude.{Contains, ◌↔◌}
use Rattle.std.proofs.lemmas.List.Elements.{All-contains, Contains-get_or}
use Rattle.trop_theory.specs.Semiring.{Semiring, SemiringLaws}
use Rattle.trop_theory.specs.Vectors.{AreWide}
use Rattle.trop_theory.specs.Inequalities.{Inequality, IsIn, IsTrueAt, InGuard}
use Rattle.trop_theory.proofs.Truth.{HoldsOf}
use Rattle.trop_theory.proofs.Truth.{truth}
use Rattle.trop_theory.proofs.Mixed.{length-mixed}
use Rattle.trop_theory.proofs.StepSound.{step_is_guard}
use Rattle.trop_theory.proofs.Narrower.{Stepped, stepped}
use Rattle.trop_theory.specs.Combinations.{IsCombination}
use Rattle.trop_theory.proofs.Combinations.{IsCombination-length}
use Rattle.trop_cones.proofs.Generated.{Generated}

module _ {V : Type 0} {R : Semiring V} (laws : SemiringLaws R) (n : ℕ) (p : Inequality V) (inside : IsIn n p)
    (rows : List (List V)) (w : AreWide n rows) where
  stepped_rows : Stepped laws n p.left p.right rows
  stepped_rows = stepped laws n p.left p.right rows

  lengths : (y : List V) → Contains rows y → length y ≡ n
  lengths y h = All-contains (λ g. length g ≡ n) rows y w h

  stepped_wide : AreWide n stepped_rows.others
  stepped_wide k d l = ⊎_elim
      (λ q. lengths _ q.0)
      (λ q. ap length q.6 ∙ length-mixed laws p.left p.right q.0 q.1 (lengths q.0 q.2 ∙ sym (lengths q.1 q.3))
      ∙ lengths q.0 q.2)
      (stepped_rows.step.only (get_or stepped_rows.others k d) (Contains-get_or stepped_rows.others k d l))

  truth_at : (x : List V) → IsCombination R n rows x → HoldsOf R p.left p.right x ↔ IsTrueAt R p x
  truth_at x c = let l = IsCombination-length laws n rows x w c in
      truth laws p.left p.right x (inside.left ∙ sym l) (inside.right ∙ sym l)

  -- the vectors of a generated cone at which an inequality is true are generated
  pub guard_generated : Generated laws n (InGuard R (IsCombination R n rows) p)
  guard_generated = record {
    rows = stepped_rows.others;
    wide = stepped_wide;
    same = λ x. let g = step_is_guard laws n p.left p.right rows stepped_rows.others w stepped_wide stepped_rows.step
        x in (
          λ h. g.1 (h.0, (truth_at x h.0).1 h.1),
          λ c. let h = g.0 c in (h.0, (truth_at x h.0).0 h.1),
        );
  }
