-- Two-sided inequalities a.x <= b.x between sums of scaled coordinates, in the semiring's order.
use Rattle.std.specs.Prelude.{◌≡◌, ◌<◌, ℕ, max, List, [], ◌∷◌, length, All}
use Rattle.trop_theory.specs.Semiring.{Semiring, Le}
use Rattle.trop_theory.specs.Vectors.{entry, row_size}

-- the coefficients of both sides
pub record Inequality (V : Type 0) : Type 0 where
  pub left : List V
  pub right : List V

-- It is true at x where each term of the left is at most some term of the right.
abbrev pub IsTrueAt : {V : Type 0} → Semiring V → Inequality V → List V → Type 0
IsTrueAt R p x = (i : ℕ) → i < length x → (j : ℕ) × (j < length x) × Le R (R.times (entry R p.left i) (entry R x i))
    (R.times (entry R p.right j) (entry R x j))

-- x is a solution of the system in n coordinates
pub record Solves {V : Type 0} (R : Semiring V) (n : ℕ) (system : List (Inequality V)) (x : List V) : Type 0 where
  pub wide : length x ≡ n
  pub holds : All (λ p. IsTrueAt R p x) system

-- true at every vector of the cone
abbrev pub IsValidOn : {V : Type 0} → Semiring V → (List V → Type 0) → Inequality V → Type 0
IsValidOn R cone p = (x : List _) → cone x → IsTrueAt R p x

-- the vectors of the cone at which it is true
abbrev pub InGuard : {V : Type 0} → Semiring V → (List V → Type 0) → Inequality V → List V → Type 0
InGuard R cone p x = cone x × IsTrueAt R p x

-- both sides have n coefficients
pub record IsIn {V : Type 0} (n : ℕ) (p : Inequality V) : Type 0 where
  pub left : length p.left ≡ n
  pub right : length p.right ≡ n

-- the greatest size of a coefficient, 0 of none
abbrev pub inequality_size : {V : Type 0} → Semiring V → Inequality V → ℕ
inequality_size R p = max (row_size R p.left) (row_size R p.right)

abbrev pub system_size : {V : Type 0} → Semiring V → List (Inequality V) → ℕ
system_size R [] = 0
system_size R (p ∷ system) = max (inequality_size R p) (system_size R system)
