-- What the comparison of two sums that were computed says.
use Rattle.std.proofs.Common.{Bool, ◌≡◌, List, length, sym, subst}
use Rattle.std.specs.Prelude.{IsTrue, ◌↔◌}
use Rattle.trop_theory.specs.Semiring.{Semiring, SemiringLaws, Le}
use Rattle.trop_theory.specs.Vectors.{dot}
use Rattle.trop_theory.specs.Inequalities.{Inequality, IsTrueAt}
use Rattle.trop_theory.proofs.Truth.{truth}

module _ {V : Type 0} {R : Semiring V} (laws : SemiringLaws R) where
  pub truth_of_sums : (p : Inequality V) (x : List V) (a b : V) (r : Bool) → length p.left ≡ length x →
      length p.right ≡ length x → a ≡ dot R p.left x → b ≡ dot R p.right x → IsTrue r ↔ Le R a b → IsTrue r ↔
      IsTrueAt R p x
  truth_of_sums p x a b r el er ea eb h =
      let t = truth laws p.left p.right x el er in (
        λ y. t.0 (subst (λ v. Le R v (dot R p.right x)) ea (subst (Le R a) eb (h.0 y))),
        λ y. h.1 (subst (λ v. Le R v b) (sym ea) (subst (Le R (dot R p.left x)) (sym eb) (t.1 y))),
      )
