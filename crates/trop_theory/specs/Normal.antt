-- The normal form of a vector: of all its multiples, the one whose first finite entry is the one.
use Rattle.std.specs.Prelude.{◌≡◌, ◌≢◌, ◌<◌, ℕ, List, length}
use Rattle.trop_theory.specs.Semiring.{Semiring}
use Rattle.trop_theory.specs.Vectors.{entry, scaled}

-- the first entry other than the zero is the one
pub record IsNormal {V : Type 0} (R : Semiring V) (x : List V) : Type 0 where
  pub first : ℕ
  pub within : first < length x
  pub is_one : entry R x first ≡ R.one
  pub before : (i : ℕ) → i < first → entry R x i ≡ R.zero

-- the new vector is a multiple of the old by a finite factor, in normal form
pub record Normalises {V : Type 0} (R : Semiring V) (old new : List V) : Type 0 where
  pub factor : V
  pub finite : factor ≢ R.zero
  pub multiple : new ≡ scaled R factor old
  pub normal : IsNormal R new
