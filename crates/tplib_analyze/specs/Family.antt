-- The family of a program: what comes of its analysis by tropical polyhedra, a value for each point.
use Rattle.std.specs.Prelude.{◌+◌, ℕ, Bool, List, length, slice_index_or}
use Rattle.trop_theory.specs.Semiring.{Semiring}
use Rattle.trop_theory.specs.Numbers.{Numbering}
use Rattle.prog_theory.specs.Named.{Named}
use Rattle.dom_theory.specs.Outcomes.{Outcome}
use Rattle.dom_theory.specs.Analysis.{End}
use Rattle.dom_family.specs.Family as families
use Rattle.cone_domain.specs.Values.{Value}
use Rattle.cone_domain.specs.Polyhedra.{polyhedra, nothing}

-- The first `delay` changes of a head are joins, and `narrow` passes follow the ascent.
abbrev pub FamilyOf : {V : Type 0} → Semiring V → Numbering V → Bool → ℕ → ℕ → Named → Outcome (End (Value V)) → Type 0
FamilyOf R N reversed delay narrow p = families.FamilyOf (polyhedra R N reversed) delay narrow p

-- one coordinate for each variable, and coordinate 0
abbrev pub coordinates : Named → ℕ
coordinates p = length p.names + 1

-- the value at a point
abbrev pub value_in : {V : Type 0} → Named → List (Value V) → ℕ → Value V
value_in p values q = slice_index_or values q (nothing (length p.names))
