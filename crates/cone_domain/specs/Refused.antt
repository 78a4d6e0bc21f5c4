-- Which calls are refused, for which cause and at which part. The first part in order that has too many rows or too
-- large numbers is the one.
use Rattle.std.specs.Prelude.{◌≡◌, ◌^◌, ◌<◌, ◌≤◌, ℕ, Bool, List, length, None}
use Rattle.trop_theory.specs.Semiring.{Semiring}
use Rattle.trop_theory.specs.Vectors.{rows_size}
use Rattle.trop_theory.specs.Numbers.{Numbering}
use Rattle.trop_theory.specs.Inequalities.{Inequality, Solves}
use Rattle.trop_theory.specs.Canonical.{IsCanonical, IsOverLimit, row_limit}
use Rattle.trop_cones.specs.Sets.{InJoin}
use Rattle.trop_duality.specs.PolarStops.{IsPolarStop}
use Rattle.trop_cones.specs.RowStops.{IsRowsStop}
use Rattle.dom_theory.specs.Refusals.{At, Whole, Polar, Kept}
use Rattle.dom_theory.specs.Relations.{Call, Apply, Join, Widen, Cause, OverLimit, OutOfRange}
use Rattle.cone_reports.specs.Images.{InImage}
use Rattle.cone_domain.specs.Values.{Value, coordinates, cone_of}
use Rattle.cone_domain.specs.Operations.{IsKeptList}

-- the greatest size of a number in the rows of a value
abbrev pub most_value : ℕ
most_value = 2 ^ 40

-- The rows are within their limit, and a number is above its own.
pub record IsTooLarge {V : Type 0} (R : Semiring V) (vectors : List V → Type 0) : Type 0 where
  pub rows : List (List V)
  pub canonical : IsCanonical R vectors rows
  pub few : length rows ≤ row_limit
  pub large : most_value < rows_size R rows

-- the value of this set is refused
abbrev pub IsRefusedFor : {V : Type 0} → Semiring V → (List V → Type 0) → Cause → Type 0
IsRefusedFor R vectors OverLimit = IsOverLimit R vectors
IsRefusedFor R vectors OutOfRange = IsTooLarge R vectors

-- The first k of the kept list are the first whose solutions are over the limit; or none are, and the solutions of
-- the whole list have too large a number.
abbrev pub IsListRefused : {V : Type 0} → Semiring V → ℕ → List (Inequality V) → Cause → ℕ → Type 0
IsListRefused R n list OverLimit k = IsRowsStop R n list k
IsListRefused R n list OutOfRange k = (k ≡ length list) × ((j : ℕ) → IsRowsStop R n list j → ⊥)
    × IsTooLarge R (Solves R n list)

-- no part of the external list is refused, where the widening begins with it
abbrev pub IsUnstopped : {V : Type 0} → Semiring V → Value V → Type 0
IsUnstopped R v = v.kept ≡ None → (i k : ℕ) → IsPolarStop R (coordinates v) v.rows i k → ⊥

pub record IsKeptRefused {V : Type 0} (R : Semiring V) (v next : Value V) (cause : Cause) (k : ℕ) : Type 0 where
  pub unstopped : IsUnstopped R v
  pub list : List (Inequality V)
  pub is_kept : IsKeptList R v next list
  pub refused : IsListRefused R (coordinates v) list cause k

-- the parts of a widening: those of the external list at the first one, and then those of the kept list
abbrev pub IsPartRefused : {V : Type 0} → Semiring V → Value V → Value V → Cause → At → Type 0
IsPartRefused R v next cause Whole = ⊥
IsPartRefused R v next cause (Polar i k) = (cause ≡ OverLimit) × (v.kept ≡ None)
    × IsPolarStop R (coordinates v) v.rows i k
IsPartRefused R v next cause (Kept k) = IsKeptRefused R v next cause k

abbrev pub IsRefused : {V : Type 0} → Semiring V → Numbering V → Bool → Call (Value V) → Cause → At → Type 0
IsRefused R N reversed (Apply op v) cause part = (part ≡ Whole)
    × IsRefusedFor R (InImage R N reversed (coordinates v) op (cone_of R v)) cause
IsRefused R N reversed (Join v other) cause part = (part ≡ Whole)
    × IsRefusedFor R (InJoin R (cone_of R v) (cone_of R other)) cause
IsRefused R N reversed (Widen v next) cause part = IsPartRefused R v next cause part
