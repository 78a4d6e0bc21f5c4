-- Where a cone that is made with one inequality after another passes the limit.
use Rattle.std.specs.Prelude.{◌<◌, ◌≤◌, ℕ, List, length, take}
use Rattle.trop_theory.specs.Semiring.{Semiring}
use Rattle.trop_theory.specs.Inequalities.{Inequality, Solves}
use Rattle.trop_theory.specs.Canonical.{IsOverLimit}
use Rattle.trop_cones.specs.Sets.{InMeet}

-- Of the cones with the numbers up to m, that with the number k is the first over the limit.
pub record IsFirstOver {V : Type 0} (R : Semiring V) (cone : ℕ → List V → Type 0) (m k : ℕ) : Type 0 where
  pub within : k ≤ m
  pub over : IsOverLimit R (cone k)
  pub least : (j : ℕ) → j < k → IsOverLimit R (cone j) → ⊥

-- the first k inequalities are the least front of the system whose solutions are over the limit
abbrev pub IsRowsStop : {V : Type 0} → Semiring V → ℕ → List (Inequality V) → ℕ → Type 0
IsRowsStop R n system k = IsFirstOver R (λ j. Solves R n (take j system)) (length system) k

-- the same within a cone
abbrev pub IsMeetStop : {V : Type 0} → Semiring V → (List V → Type 0) → ℕ → List (Inequality V) → ℕ → Type 0
IsMeetStop R cone n system k = IsFirstOver R (λ j. InMeet cone (Solves R n (take j system))) (length system) k
