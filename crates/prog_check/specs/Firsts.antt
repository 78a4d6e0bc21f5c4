-- The first element of a list that lacks a property, by its value or by its place.
use Rattle.std.specs.Prelude.{ℕ, Bool, List}
use Rattle.trop_theory.specs.Semiring.{Semiring}
use Rattle.trop_theory.specs.Numbers.{Numbering}
use Rattle.trop_theory.specs.Combinations.{IsCombination}
use Rattle.prog_theory.specs.Edges.{Op}
use Rattle.cone_reports.specs.EdgeLists.{IsEdgeList}
use Rattle.cone_reports.specs.Verdicts.{IsFirstWithout}

-- x is the first element that lacks it
abbrev pub HasFirst : {X : Type 0} → (X → Type 0) → List X → X → Type 0
HasFirst P xs x = (k : ℕ) × IsFirstWithout P xs k x

-- the first element that lacks it stands at place k
abbrev pub IsFirstAt : {X : Type 0} → (X → Type 0) → List X → ℕ → Type 0
IsFirstAt {X} P xs k = (x : X) × IsFirstWithout P xs k x

-- the row is the first of the edge's list that is no combination of the target's rows
abbrev pub IsOutside : {V : Type 0} → Semiring V → Numbering V → Bool → ℕ → Op → List (List V) → List (List V) → List V
    → Type 0
IsOutside {V} R N reversed n op rows target row =
    (list : List (List V)) × IsEdgeList R N reversed n op rows list × HasFirst (IsCombination R n target) list row
