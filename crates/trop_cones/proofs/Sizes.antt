-- The sizes of rows and lists: of an entry, of a quotient of entries, of rows with one entry replaced, and of a whole
-- from its parts.
use Rattle.std.proofs.Common.{◌≢◌, ◌<◌, ◌≤◌, ◌+◌, ℕ, zero, suc, List, [], ◌∷◌, length, set, ⊎_elim, ap, arith}
use Rattle.std.specs.Prelude.{All}
use Rattle.std.proofs.lemmas.Bool.{cases_lt}
use Rattle.std.proofs.lemmas.List.{get_or_past}
use Rattle.std.proofs.lemmas.List.Elements.{All-head, All-tail, All-cons, All-nil}
use Rattle.trop_theory.specs.Semiring.{Semiring, SemiringLaws}
use Rattle.trop_theory.specs.Vectors.{entry, bottom, row_size, rows_size}
use Rattle.trop_theory.specs.Inequalities.{Inequality, inequality_size, system_size}
use Rattle.trop_theory.proofs.Sizes.{size-entry}
use Rattle.trop_cones.specs.Sets.{assigned}

module _ {V : Type 0} (R : Semiring V) where
  pub row_size-each : (y : List V) (b : ℕ) → ((i : ℕ) → i < length y → R.size (entry R y i) ≤ b) → row_size R y ≤ b
  row_size-each [] b h = omega arith
  row_size-each (a ∷ y) b h = omega (arith, h 0 (omega arith), row_size-each y b (λ i l. h (suc i) (omega arith)))

module _ {V : Type 0} {R : Semiring V} (laws : SemiringLaws R) where
  -- an entry is no larger than the row, past its end too
  pub size_entry : (x : List V) (i : ℕ) → R.size (entry R x i) ≤ row_size R x
  size_entry x i = ⊎_elim
      (λ l. size-entry R x i R.zero l)
      (λ l. omega (arith, ap R.size (get_or_past x i R.zero l), laws.size_zero))
      (cases_lt i (length x))

  -- an entry and the inverse of an entry
  pub size_terms : (x y : List V) (i j : ℕ) → entry R y j ≢ R.zero →
      R.size (entry R x i) + R.size (R.inverse (entry R y j)) ≤ row_size R x + row_size R y
  size_terms x y i j f = omega (arith, laws.size_inverse (entry R y j) f, size_entry x i, size_entry y j)

  pub size_quotient : (x y : List V) (i j : ℕ) → entry R y j ≢ R.zero →
      R.size (R.times (entry R x i) (R.inverse (entry R y j))) ≤ row_size R x + row_size R y
  size_quotient x y i j f = omega (arith, laws.size_times (entry R x i) (R.inverse (entry R y j)), size_terms x y i j f)

  pub row_size-set : (x : List V) (i : ℕ) (a : V) (m : ℕ) → row_size R x ≤ m → R.size a ≤ m → row_size R (set x i a) ≤ m
  row_size-set [] i a m h k = h
  row_size-set (b ∷ x) zero a m h k = omega arith
  row_size-set (b ∷ x) (suc i) a m h k = omega (arith, row_size-set x i a m (omega arith) k)

  -- a row with an entry cleared, or replaced by a multiple of an entry
  pub row_size-cleared : (x : List V) (i : ℕ) → row_size R (set x i R.zero) ≤ row_size R x
  row_size-cleared x i = row_size-set x i R.zero (row_size R x) (omega arith) (omega (arith, laws.size_zero))

  pub row_size-assigned : (x : List V) (i from : ℕ) (c : V) →
      row_size R (assigned R i from c x) ≤ row_size R x + R.size c
  row_size-assigned x i from c = row_size-set x i (R.times c (entry R x from)) (row_size R x + R.size c) (omega arith)
      (omega (arith, laws.size_times c (entry R x from), size_entry x from))

  pub row_size-bottom : (n m : ℕ) → row_size R (bottom R n) ≤ m
  row_size-bottom zero m = omega arith
  row_size-bottom (suc n) m = omega (arith, laws.size_zero, row_size-bottom n m)

  pub system_size-each : (system : List (Inequality V)) (m : ℕ) → All (λ p. inequality_size R p ≤ m) system →
      system_size R system ≤ m
  system_size-each [] m h = omega arith
  system_size-each (p ∷ system) m h = omega (
    arith,
    All-head (λ p. inequality_size R p ≤ m) p system h,
    system_size-each system m (All-tail (λ p. inequality_size R p ≤ m) p system h),
  )

  pub rows_size-each : (rows : List (List V)) (m : ℕ) → All (λ g. row_size R g ≤ m) rows → rows_size R rows ≤ m
  rows_size-each [] m h = omega arith
  rows_size-each (g ∷ rows) m h = omega (
    arith,
    All-head (λ g. row_size R g ≤ m) g rows h,
    rows_size-each rows m (All-tail (λ g. row_size R g ≤ m) g rows h),
  )

  pub All-rows_size : (rows : List (List V)) (m : ℕ) → rows_size R rows ≤ m → All (λ g. row_size R g ≤ m) rows
  All-rows_size [] m h = All-nil (λ g. row_size R g ≤ m)
  All-rows_size (g ∷ rows) m h = All-cons (λ g. row_size R g ≤ m) g rows (omega arith)
      (All-rows_size rows m (omega arith))
