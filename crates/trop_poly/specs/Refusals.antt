-- Why operations on cones are refused.
use Rattle.std.specs.Prelude.{◌≡◌, ◌<◌, ◌≤◌, ℕ, List, length}
use Rattle.trop_theory.specs.Semiring.{Semiring}
use Rattle.trop_theory.specs.Inequalities.{Inequality}
use Rattle.trop_theory.specs.Combinations.{IsCombination}
use Rattle.trop_theory.specs.Canonical.{IsOverLimit}
use Rattle.trop_cones.specs.RowStops.{IsRowsStop, IsMeetStop}
use Rattle.trop_duality.specs.External.{IsExternal}
use Rattle.trop_duality.specs.PolarStops.{IsPolarOver, IsPolarStop}
use Rattle.trop_poly.specs.declared.error.PolyErr.{PolyErr}
use Rattle.trop_poly.specs.declared.error.PolyErr.TheVariants.{Rows, Polar, NoMemory}

-- the cone that is made with k inequalities is over the limit
abbrev pub IsConeRefusal : {V : Type 0} → Semiring V → ℕ → (List V → Type 0) → PolyErr → Type 0
IsConeRefusal R k cone (Rows j) = (j ≡ k) × IsOverLimit R cone
IsConeRefusal R k cone (Polar i j) = ⊥
IsConeRefusal R k cone NoMemory = Unit {0}

-- the first k inequalities are the least front of the system whose solutions are over the limit
abbrev pub IsSystemRefusal : {V : Type 0} → Semiring V → ℕ → List (Inequality V) → PolyErr → Type 0
IsSystemRefusal R n system (Rows k) = IsRowsStop R n system k
IsSystemRefusal R n system (Polar i j) = ⊥
IsSystemRefusal R n system NoMemory = Unit {0}

-- the external list of the combinations of the rows, a canonical list, stops at this pair
abbrev pub IsExternalRefusal : {V : Type 0} → Semiring V → ℕ → List (List V) → PolyErr → Type 0
IsExternalRefusal R n rows (Rows k) = ⊥
IsExternalRefusal R n rows (Polar i k) = IsPolarStop R n rows i k
IsExternalRefusal R n rows NoMemory = Unit {0}

-- of the external list of the other cone, whose canonical list is given, the first k inequalities are the least
-- front whose solutions have too large a part in common with the cone
abbrev pub IsMeetStopOf : {V : Type 0} → Semiring V → ℕ → (List V → Type 0) → List (List V) → ℕ → Type 0
IsMeetStopOf {V} R n cone other k = (system : List (Inequality V)) × IsExternal R n (IsCombination R n other) system
    × IsMeetStop R cone n system k

-- the external list of the other cone stops at a pair; else the meet stops at a number of its inequalities
abbrev pub IsMeetRefusal : {V : Type 0} → Semiring V → ℕ → (List V → Type 0) → List (List V) → PolyErr → Type 0
IsMeetRefusal R n cone other (Rows k) = ((i j : ℕ) → IsPolarStop R n other i j → ⊥) × IsMeetStopOf R n cone other k
IsMeetRefusal R n cone other (Polar i k) = IsPolarStop R n other i k
IsMeetRefusal R n cone other NoMemory = Unit {0}

-- the i-th polar of the first k rows is over the limit, and of no fewer
abbrev pub IsPolarRefusal : {V : Type 0} → Semiring V → ℕ → List (List V) → ℕ → PolyErr → Type 0
IsPolarRefusal R n rows i (Rows k) = ⊥
IsPolarRefusal R n rows i (Polar j k) = (j ≡ i) × (1 ≤ k) × (k ≤ length rows) × IsPolarOver R n rows i k
    × ((l : ℕ) → l < k → IsPolarOver R n rows i l → ⊥)
IsPolarRefusal R n rows i NoMemory = Unit {0}
