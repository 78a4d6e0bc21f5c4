-- How far the entries of a vector are from each other.
use Rattle.std.specs.Prelude.{◌≢◌, ◌≤◌, ℕ, List, All}
use Rattle.trop_theory.specs.Semiring.{Semiring}
use Rattle.trop_theory.specs.Vectors.{entry}

-- the quotient of any two finite entries of x has at most this size: as numbers they differ by no more
abbrev pub HasSpread : {V : Type 0} → Semiring V → ℕ → List V → Type 0
HasSpread R bound x = (i j : ℕ) → entry R x i ≢ R.zero → entry R x j ≢ R.zero →
    R.size (R.times (entry R x i) (R.inverse (entry R x j))) ≤ bound

-- so it is for each of the rows
abbrev pub HaveSpread : {V : Type 0} → Semiring V → ℕ → List (List V) → Type 0
HaveSpread R bound rows = All (HasSpread R bound) rows
