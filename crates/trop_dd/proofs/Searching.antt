-- A search by halves among rows that ascend.
use Rattle.std.proofs.Common.{◌≡◌, ◌<◌, ◌≤◌, ◌+◌, ℕ, Bool, true, List, length, refl, sym, ap, ◌∙◌, arith, subst, get_or, ⊎_elim}
use Rattle.std.specs.Prelude.{AllPairs, Contains, insert, ◌↔◌}
use Rattle.std.specs.declared.cmp.Ordering.{Ordering}
use Rattle.std.specs.declared.cmp.Ordering.TheVariants.{Less, Equal, Greater}
use Rattle.std.specs.Cmp.{IsTotalOrder}
use Rattle.std.specs.Ordering.{ordering_reverse, ordering_index}
use Rattle.std.specs.List.Sorted.{IsNonDecreasingBy}
use Rattle.std.proofs.lemmas.Bool.{cases_lt}
use Rattle.trop_theory.specs.Semiring.{Semiring, SemiringLaws}
use Rattle.trop_theory.specs.Canonical.{RowBelow}
use Rattle.trop_theory.specs.Compare.{compare_rows}
use Rattle.trop_theory.proofs.CompareLaws.{compare_rows_total, RowBelow-from_Less}
use Rattle.trop_theory.proofs.Placing.{ascending_insert, searchable_rows, same_from_Equal}

index_least : (o r : Ordering) → r ≡ Less → ordering_index o ≤ ordering_index r → o ≡ Less
index_least Less r e h = refl
index_least Equal r e h = absurd (omega (arith, h, ap ordering_index e))
index_least Greater r e h = absurd (omega (arith, h, ap ordering_index e))

index_most : (o r : Ordering) → r ≡ Greater → ordering_index r ≤ ordering_index o → o ≡ Greater
index_most Less r e h = absurd (omega (arith, h, ap ordering_index e))
index_most Equal r e h = absurd (omega (arith, h, ap ordering_index e))
index_most Greater r e h = refl

-- the rows before `low` are below x, and those from `high` on above it
pub record IsBetween {V : Type 0} (R : Semiring V) (same : V → V → Bool) (rows : List (List V)) (x : List V)
    (low high : ℕ) : Type 0 where
  pub ordered : low ≤ high
  pub within : high ≤ length rows
  pub less : (k : ℕ) (d : List V) → k < low → compare_rows same R (get_or rows k d) x ≡ Less
  pub greater : (k : ℕ) (d : List V) → high ≤ k → k < length rows → compare_rows same R (get_or rows k d) x ≡ Greater

module _ {V : Type 0} {R : Semiring V} (laws : SemiringLaws R) (same : V → V → Bool)
    (decides : (a b : V) → (same a b ≡ true) ↔ (a ≡ b)) (rows : List (List V)) (x : List V) where
  pub between_first : (high : ℕ) → high ≡ length rows → IsBetween R same rows x 0 high
  between_first high e = record {
    ordered = omega arith;
    within = omega (arith, e);
    less = λ k d l. absurd (omega arith);
    greater = λ k d le lt. absurd (omega (arith, e, le, lt));
  }

  module _ (ascending : AllPairs (RowBelow R) rows) (low high middle : ℕ) (b : IsBetween R same rows x low high) where
    search : IsNonDecreasingBy (λ y. ordering_index (compare_rows same R y x)) rows
    search = searchable_rows laws same decides rows x ascending

    pub between_low : middle < high → ((d : List V) → compare_rows same R (get_or rows middle d) x ≡ Less) →
        IsBetween R same rows x (middle + 1) high
    between_low lt less = record {
      ordered = omega arith;
      within = b.within;
      less = λ k d l. index_least (compare_rows same R (get_or rows k d) x)
          (compare_rows same R (get_or rows middle d) x) (less d)
          (search k middle d (omega arith) (omega (arith, b.within, lt)));
      greater = b.greater;
    }

    pub between_high : low ≤ middle → middle < high →
        ((d : List V) → compare_rows same R (get_or rows middle d) x ≡ Greater) → IsBetween R same rows x low middle
    between_high le lt greater = record {
      ordered = le;
      within = omega (arith, b.within, lt);
      less = b.less;
      greater = λ k d l m. index_most (compare_rows same R (get_or rows k d) x)
          (compare_rows same R (get_or rows middle d) x) (greater d) (search middle k d l m);
    }

    pub between_found : middle < high → compare_rows same R (get_or rows middle x) x ≡ Equal → Contains rows x
    between_found lt e = (
      middle,
      omega (arith, b.within, lt),
      same_from_Equal laws same decides (get_or rows middle x) x e,
    )

    pub between_none : high ≤ low → AllPairs (RowBelow R) (insert rows low x)
    between_none le = ascending_insert (RowBelow R) rows low x (omega (arith, b.ordered, b.within)) ascending
        (λ k d lt. RowBelow-from_Less laws same decides (get_or rows k d) x (b.less k d lt))
        (λ k d l lt. RowBelow-from_Less laws same decides x (get_or rows k d)
        ((compare_rows_total laws same decides).antisymm x (get_or rows k d)
        ∙ ap ordering_reverse (b.greater k d (omega (arith, le, l)) lt)))
