-- The sizes of rows, of sums at them and of what two rows give.
use Rattle.std.proofs.Common.{◌≤◌, ◌+◌, ◌-◌, ◌*◌, ◌^◌, ℕ, max, List, [], ◌∷◌, ◌++◌, arith, get_or}
use Rattle.std.specs.Prelude.{All}
use Rattle.std.proofs.Math.Nat.{mul-le-mul_left}
use Rattle.trop_theory.specs.Semiring.{Semiring, SemiringLaws}
use Rattle.trop_theory.specs.Vectors.{dot, row_size}
use Rattle.trop_theory.specs.Inequalities.{Inequality, IsIn, system_size}
use Rattle.trop_criterion.proofs.SizeBound.{extreme_row_small}
use Rattle.trop_dd.specs.Description.{Describes}

module _ {V : Type 0} {R : Semiring V} (laws : SemiringLaws R) where
  pub size-dot : (c x : List V) → R.size (dot R c x) ≤ row_size R c + row_size R x
  size-dot [] x = omega (arith, laws.size_zero)
  size-dot (a ∷ c) [] = omega (arith, laws.size_zero)
  size-dot (a ∷ c) (b ∷ x) = omega (arith, laws.size_plus (R.times a b) (dot R c x), laws.size_times a b, size-dot c x)

-- the rows of a description are small
module _ {V : Type 0} {R : Semiring V} (laws : SemiringLaws R) (n : ℕ) (system : List (Inequality V))
    (rows : List (List V)) (inside : All (IsIn n) system) (described : Describes R n system rows) where
  pub described_small : All (λ row. row_size R row ≤ 4 * system_size R system * (n - 1)) rows
  described_small k d l = extreme_row_small laws n (system_size R system) system (get_or rows k d) inside (omega arith)
      (described.canonical.extreme k d l) (described.canonical.normal k d l)

  pub described_fit : n ≤ 64 → system_size R system ≤ 2 ^ 49 → All (λ row. row_size R row ≤ 2 ^ 57) rows
  described_fit ln ls k d l =
      let most : 4 * system_size R system * (n - 1) ≤ 4 * system_size R system * 63 =
      mul-le-mul_left (4 * system_size R system) (omega arith) in
      omega (arith, described_small k d l, most)

pub row_size-push : {V : Type 0} (R : Semiring V) (x : List V) (a : V) →
    row_size R (x ++ a ∷ []) ≤ max (row_size R x) (R.size a)
row_size-push R [] a = omega arith
row_size-push R (b ∷ x) a = omega (arith, row_size-push R x a)
