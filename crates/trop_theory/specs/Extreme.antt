-- Extreme vectors of a cone, and their types.
-- Butkovic, Schneider, Sergeev: Generators, extremals and bases of max cones (2007); Gaubert, Katz: The Minkowski
-- theorem for max-plus convex sets (2007). Types: Allamigeon, Gaubert, Goubault: The tropical double description
-- method (2010).
use Rattle.std.specs.Prelude.{◌≡◌, ◌≢◌, ◌⊎◌, ℕ, List, length}
use Rattle.trop_theory.specs.Semiring.{Semiring}
use Rattle.trop_theory.specs.Vectors.{entry, joined, bottom, Below}

-- x is no sum of two vectors of the cone that both differ from it
pub record IsExtreme {V : Type 0} (R : Semiring V) (cone : List V → Type 0) (x : List V) : Type 0 where
  pub member : cone x
  pub not_bottom : x ≢ bottom R (length x)
  pub unsplit : (y z : List V) → cone y → cone z → x ≡ joined R y z → (x ≡ y) ⊎ (x ≡ z)

-- x is least in the cone among the vectors below it with its entry t
pub record IsType {V : Type 0} (R : Semiring V) (cone : List V → Type 0) (x : List V) (t : ℕ) : Type 0 where
  pub member : cone x
  pub finite : entry R x t ≢ R.zero
  pub least : (y : List V) → cone y → Below R y x → entry R y t ≡ entry R x t → y ≡ x
