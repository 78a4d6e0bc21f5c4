-- Where no front of a system is the first over the limit, the canonical list of its solutions is within it.
use Rattle.std.proofs.Common.{◌<◌, ◌≤◌, ◌⊎◌, ℕ, zero, suc, List, length, take, ⊎_elim, sym, subst, arith}
use Rattle.std.proofs.lemmas.List.{take_all}
use Rattle.trop_theory.specs.Semiring.{Semiring}
use Rattle.trop_theory.specs.Inequalities.{Inequality, Solves}
use Rattle.trop_theory.specs.Canonical.{row_limit, IsCanonical, IsOverLimit}
use Rattle.trop_cones.specs.RowStops.{IsFirstOver, IsRowsStop}

within_or_over : (a b : ℕ) → (a ≤ b) ⊎ (b < a)
within_or_over a b = grind arith

module _ {V : Type 0} (R : Semiring V) (cone : ℕ → List V → Type 0) (m : ℕ)
    (unstopped : (k : ℕ) → IsFirstOver R cone m k → ⊥) where
  none_over : (k j : ℕ) → j < k → j ≤ m → IsOverLimit R (cone j) → ⊥
  none_over zero j l w over = absurd (omega arith)
  none_over (suc k) j l w over = unstopped j (record {
    within = w;
    over = over;
    least = λ i less first. none_over k i (omega arith) (omega arith) first;
  })

module _ {V : Type 0} (R : Semiring V) (n : ℕ) (system : List (Inequality V))
    (unstopped : (k : ℕ) → IsRowsStop R n system k → ⊥) where
  solutions_within : IsOverLimit R (Solves R n system) → ⊥
  solutions_within over =
      none_over R (λ j. Solves R n (take j system)) (length system) unstopped (suc (length system)) (length system)
      (omega arith) (omega arith)
      (subst (λ s. IsOverLimit R (Solves R n s)) (sym (take_all (length system) system (omega arith))) over)

  pub unstopped_few : (rows : List (List V)) → IsCanonical R (Solves R n system) rows → length rows ≤ row_limit
  unstopped_few rows h = ⊎_elim (λ few. few) (λ many. absurd (solutions_within (record {
    rows = rows;
    ascending = h.ascending;
    normal = h.normal;
    extreme = h.extreme;
    many = many;
  }))) (within_or_over (length rows) row_limit)
