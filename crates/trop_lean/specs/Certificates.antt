-- Rows that show each inequality of a list to be needed, one by one.
use Rattle.std.specs.Prelude.{◌≡◌, ◌≢◌, ◌⊎◌, ◌<◌, ℕ, List, length, slice_index_or}
use Rattle.trop_theory.specs.Semiring.{Semiring}
use Rattle.trop_theory.specs.Inequalities.{Inequality, IsTrueAt}

-- the inequality of place j is false at the row of place k where these are one place, and true where they are two
abbrev pub IsAsWanted : {V : Type 0} → Semiring V → ℕ → ℕ → Inequality V → List V → Type 0
IsAsWanted R j k p w = ((j ≡ k) × (IsTrueAt R p w → ⊥)) ⊎ ((j ≢ k) × IsTrueAt R p w)

-- the row makes the inequality at place k false and each other one true
abbrev pub FailsAlone : {V : Type 0} → Semiring V → List (Inequality V) → ℕ → List V → Type 0
FailsAlone {V} R kept k w = (j : ℕ) (p : Inequality V) → j < length kept → IsAsWanted R j k (slice_index_or kept j p) w

-- each row makes the inequality at its own place false and the others true
abbrev pub EachFailsAlone : {V : Type 0} → Semiring V → List (Inequality V) → List (List V) → Type 0
EachFailsAlone {V} R kept rows = (k : ℕ) (w : List V) → k < length rows → FailsAlone R kept k (slice_index_or rows k w)
