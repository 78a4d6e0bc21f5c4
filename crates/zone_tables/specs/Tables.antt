-- Matrices in lists: the bounds of n coordinates, row by row, none where the coordinates are equal.
use Rattle.std.specs.Prelude.{◌≡◌, ◌<◌, ◌+◌, ◌*◌, ◌==◌, ℕ, zero, suc, cond, ltb, List, [], ◌∷◌, ◌++◌, length, slice_index_or, None}
use Rattle.zone_theory.specs.Bounds.{Bound}
use Rattle.zone_theory.specs.Matrices.{Matrix}

-- the bound in row i and column j
abbrev pub cell_at : ℕ → List Bound → ℕ → ℕ → Bound
cell_at n bounds i j = slice_index_or bounds (i * n + j) None

-- the matrix of a list, which has a number only at two different coordinates below n
unfoldable pub matrix_of : ℕ → List Bound → Matrix
matrix_of n bounds i j = cond (i == j) None (cond (ltb i n) (cond (ltb j n) (cell_at n bounds i j) None) None)

-- the first n bounds of row i
abbrev pub row_of : Matrix → ℕ → ℕ → List Bound
row_of m i zero = []
row_of m i (suc n) = row_of m i n ++ m i n ∷ []

-- the first k rows of n bounds
abbrev pub rows_of : Matrix → ℕ → ℕ → List Bound
rows_of m n zero = []
rows_of m n (suc k) = rows_of m n k ++ row_of m k n

-- the list of a matrix, with nothing where the coordinates are equal
abbrev pub apart : Matrix → Matrix
apart m i j = cond (i == j) None (m i j)

abbrev pub table_of : ℕ → Matrix → List Bound
table_of n m = rows_of (apart m) n n

-- a list that stands for a matrix
pub record IsTable (n : ℕ) (bounds : List Bound) : Type 0 where
  pub size : length bounds ≡ n * n
  pub none : (i : ℕ) → i < n → cell_at n bounds i i ≡ None

-- a list whose bounds are made, each of those that stand at its place in two others
pub record AreMade (f : Bound → Bound → Bound) (xs ys zs : List Bound) : Type 0 where
  pub size : length zs ≡ length xs
  pub each : (k : ℕ) → slice_index_or zs k None ≡ f (slice_index_or xs k None) (slice_index_or ys k None)
