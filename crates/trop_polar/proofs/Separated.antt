-- The inequality that is made of a unit row and a barrier separates.
use Rattle.std.proofs.Common.{◌≡◌, ℕ, List, length, set, sym, ap, subst}
use Rattle.std.specs.Prelude.{All}
use Rattle.trop_theory.specs.Semiring.{Semiring, SemiringLaws}
use Rattle.trop_theory.specs.Vectors.{bottom}
use Rattle.trop_theory.specs.Inequalities.{Inequality}
use Rattle.trop_theory.specs.Residual.{IsFirstUnmet}
use Rattle.trop_duality.specs.Barriers.{IsBarrier}
use Rattle.trop_duality.specs.Separation.{Separates}
use Rattle.trop_duality.proofs.Separation.{Separates-from_barrier}

module _ {V : Type 0} {R : Semiring V} (laws : SemiringLaws R) where
  of_width : (n : ℕ) (rows : List (List V)) (x : List V) (t : ℕ) (p : Inequality V) → All (λ g. length g ≡ n) rows →
      length x ≡ n → IsFirstUnmet R rows x t → p.left ≡ set (bottom R n) t R.one → IsBarrier R n rows x t p.right →
      Separates R n rows x p
  of_width n rows x t p w l first left right =
      subst (Separates R n rows x) (ap (λ side. record { left = side; right = p.right }) (sym left))
      (Separates-from_barrier laws n x t l first.finite rows p.right right w first)

  pub separates_there : (n m : ℕ) (rows some : List (List V)) (x : List V) (t : ℕ) (p : Inequality V) → length x ≡ n →
      m ≡ n → some ≡ rows → All (λ g. length g ≡ n) rows → IsFirstUnmet R rows x t → p.left ≡ set (bottom R m) t R.one →
      IsBarrier R (length x) some x t p.right → Separates R n rows x p
  separates_there n m rows some x t p l k e w first left right =
      of_width n rows x t p w l first
      (subst (λ a. p.left ≡ set (bottom R a) t R.one) k left)
      (subst (λ r. IsBarrier R n r x t p.right) e (subst (λ a. IsBarrier R a some x t p.right) l right))
