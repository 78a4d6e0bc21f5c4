-- The domain of tropical polyhedra.
use Rattle.std.specs.Prelude.{ℕ, zero, suc, ◌+◌, min, Bool, List, [], ◌∷◌, length, Option, Some, None}
use Rattle.trop_theory.specs.Semiring.{Semiring}
use Rattle.trop_theory.specs.Numbers.{Numbering}
use Rattle.trop_theory.specs.Inequalities.{Inequality}
use Rattle.trop_theory.specs.Canonical.{row_limit}
use Rattle.cone_reports.specs.EdgeLists.{unit_row}
use Rattle.cone_reports.specs.Vectors.{HasState}
use Rattle.cone_reports.specs.Readings.{IsProvenOn}
use Rattle.prog_theory.specs.Statements.{Claim}
use Rattle.dom_theory.specs.Relations.{Relations}
use Rattle.cone_domain.specs.Values.{Value, coordinates, cone_of}
use Rattle.cone_domain.specs.Operations.{IsIncluded, IsImage, IsJoin, IsWidening}
use Rattle.cone_domain.specs.Refused.{IsRefused}

-- the unit rows of the coordinates below m, the last one first
abbrev pub unit_rows : {V : Type 0} → Semiring V → ℕ → ℕ → List (List V)
unit_rows R n zero = []
unit_rows R n (suc m) = unit_row R n m ∷ unit_rows R n m

abbrev pub nothing : {V : Type 0} → ℕ → Value V
nothing vars = record { vars = vars; rows = []; kept = None }

abbrev pub everything : {V : Type 0} → Semiring V → ℕ → Value V
everything R vars = record { vars = vars; rows = unit_rows R (suc vars) (suc vars); kept = None }

-- the greatest length of a kept list and one more
abbrev pub greatest_width : ℕ
greatest_width = row_limit + 1

-- the length of the kept list, or more where there is none
abbrev pub width_of : {V : Type 0} → Option (List (Inequality V)) → ℕ
width_of None = greatest_width
width_of (Some list) = min greatest_width (length list)

abbrev pub polyhedra : {V : Type 0} → Semiring V → Numbering V → Bool → Relations (Value V)
polyhedra R N reversed = record {
  vars = λ v. v.vars;
  bottom = nothing;
  top = everything R;
  has = λ v s. HasState R N (cone_of R v) s;
  within = IsIncluded R;
  applied = IsImage R N reversed;
  joined = IsJoin R;
  widened = IsWidening R;
  refused = IsRefused R N reversed;
  width = λ v. width_of v.kept;
  max_width = λ n. greatest_width;
}

-- a value proves a claim that is proven on its cone
abbrev pub IsProvenBy : {V : Type 0} → Semiring V → Numbering V → Bool → Claim → Value V → Type 0
IsProvenBy R N reversed claim v = IsProvenOn R N reversed (coordinates v) (cone_of R v) claim
