-- The canonical list of a cone, and the limit on its length.
use Rattle.std.specs.Prelude.{◌≡◌, ◌≢◌, ◌⊎◌, ◌<◌, ℕ, List, [], ◌∷◌, length, All, AllPairs, Contains}
use Rattle.trop_theory.specs.Semiring.{Semiring, Le}
use Rattle.trop_theory.specs.Normal.{IsNormal}
use Rattle.trop_theory.specs.Extreme.{IsExtreme}

-- rows in their order: by the first entry that differs, a proper prefix first
abbrev pub RowBelow : {V : Type 0} → Semiring V → List V → List V → Type 0
RowBelow R [] [] = ⊥
RowBelow R [] (b ∷ y) = Unit {0}
RowBelow R (a ∷ x) [] = ⊥
RowBelow R (a ∷ x) (b ∷ y) = (Le R a b × (a ≢ b)) ⊎ ((a ≡ b) × RowBelow R x y)

-- the canonical list of a cone: ascending, without repeats, exactly its extreme vectors in normal form
pub record IsCanonical {V : Type 0} (R : Semiring V) (cone : List V → Type 0) (rows : List (List V)) : Type 0 where
  pub ascending : AllPairs (RowBelow R) rows
  pub normal : All (IsNormal R) rows
  pub extreme : All (IsExtreme R cone) rows
  pub complete : (x : List V) → IsNormal R x → IsExtreme R cone x → Contains rows x

-- the most extreme rows that a cone may have
abbrev pub row_limit : ℕ
row_limit = 4096

-- The cone has more extreme vectors in normal form than the limit, so its canonical list is longer.
pub record IsOverLimit {V : Type 0} (R : Semiring V) (cone : List V → Type 0) : Type 0 where
  pub rows : List (List V)
  pub ascending : AllPairs (RowBelow R) rows
  pub normal : All (IsNormal R) rows
  pub extreme : All (IsExtreme R cone) rows
  pub many : row_limit < length rows
