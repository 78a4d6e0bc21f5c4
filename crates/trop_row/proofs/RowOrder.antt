-- The comparison of rows is their order.
use Rattle.std.proofs.Common.{Bool, true, ◌≡◌, List, [], ◌∷◌, ⊎_elim, ap, ◌∙◌, refl, subst}
use Rattle.std.specs.Prelude.{◌↔◌}
use Rattle.std.specs.declared.cmp.Ordering.TheVariants.{Less, Equal}
use Rattle.std.specs.Ordering.{ordering_then}
use Rattle.trop_theory.specs.Semiring.{Semiring, SemiringLaws}
use Rattle.trop_theory.specs.Canonical.{RowBelow}
use Rattle.trop_theory.specs.Compare.{compare_rows}
use Rattle.trop_theory.proofs.CompareLaws.{compare-Less, compare-Equal, RowBelow-from_Less}
use Rattle.trop_row.proofs.Sorted.{rows_from_Equal}

module _ {V : Type 0} {R : Semiring V} (laws : SemiringLaws R) (same : V → V → Bool)
    (decides : (a b : V) → (same a b ≡ true) ↔ (a ≡ b)) where
  to_Less : (x y : List V) → RowBelow R x y → compare_rows same R x y ≡ Less
  to_Less [] [] h = absurd h
  to_Less [] (b ∷ y) h = refl
  to_Less (a ∷ x) [] h = absurd h
  to_Less (a ∷ x) (b ∷ y) h = ⊎_elim
      (λ p. ap (λ o. ordering_then o (compare_rows same R x y)) (compare-Less laws same decides a b p.0 p.1))
      (λ q. ap (λ o. ordering_then o (compare_rows same R x y)) (compare-Equal laws same decides a b q.0) ∙
      to_Less x y q.1)
      h

  itself : (x : List V) → compare_rows same R x x ≡ Equal
  itself [] = refl
  itself (a ∷ x) = ap (λ o. ordering_then o (compare_rows same R x x)) (compare-Equal laws same decides a a refl) ∙
      itself x

  pub less_is_below : (x y : List V) → (compare_rows same R x y ≡ Less) ↔ RowBelow R x y
  less_is_below x y = (RowBelow-from_Less laws same decides x y, to_Less x y)

  pub equal_is_same : (x y : List V) → (compare_rows same R x y ≡ Equal) ↔ (x ≡ y)
  equal_is_same x y = (
    rows_from_Equal laws same decides x y,
    λ e. subst (λ v. compare_rows same R x v ≡ Equal) e
        (itself x),
  )
