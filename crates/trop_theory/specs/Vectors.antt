-- Vectors: lists of values. A vector has the zero at every coordinate past its end.
use Rattle.std.specs.Prelude.{◌≡◌, ℕ, max, List, [], ◌∷◌, map, length, replicate, slice_index_or, All}
use Rattle.trop_theory.specs.Semiring.{Semiring, Le}

-- entry i, which is the zero past the end
abbrev pub entry : {V : Type 0} → Semiring V → List V → ℕ → V
entry R x i = slice_index_or x i R.zero

-- each entry multiplied
abbrev pub scaled : {V : Type 0} → Semiring V → V → List V → List V
scaled R c x = map (R.times c) x

-- the entrywise sum of two vectors of one length
abbrev pub joined : {V : Type 0} → Semiring V → List V → List V → List V
joined R [] y = []
joined R (a ∷ x) [] = []
joined R (a ∷ x) (b ∷ y) = R.plus a b ∷ joined R x y

-- the vector of n zeros
abbrev pub bottom : {V : Type 0} → Semiring V → ℕ → List V
bottom R n = replicate n R.zero

-- the sum of the products
abbrev pub dot : {V : Type 0} → Semiring V → List V → List V → V
dot R [] x = R.zero
dot R (a ∷ c) [] = R.zero
dot R (a ∷ c) (b ∷ x) = R.plus (R.times a b) (dot R c x)

-- each entry of x is at most that of y
abbrev pub Below : {V : Type 0} → Semiring V → List V → List V → Type 0
Below R x y = (i : ℕ) → Le R (entry R x i) (entry R y i)

-- each vector has n entries
abbrev pub AreWide : {V : Type 0} → ℕ → List (List V) → Type 0
AreWide n rows = All (λ row. length row ≡ n) rows

-- the greatest size of an entry, 0 of none
abbrev pub row_size : {V : Type 0} → Semiring V → List V → ℕ
row_size R [] = 0
row_size R (a ∷ x) = max (R.size a) (row_size R x)

-- the greatest size of an entry of any of the vectors, 0 of none
abbrev pub rows_size : {V : Type 0} → Semiring V → List (List V) → ℕ
rows_size R [] = 0
rows_size R (x ∷ rows) = max (row_size R x) (rows_size R rows)
