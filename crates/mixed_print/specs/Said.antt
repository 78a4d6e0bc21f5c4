-- What is said of a point with a value, and where that is refused.
use Rattle.std.specs.Prelude.{◌≡◌, ◌<◌, ℤ, ℕ, List, [], ◌∷◌, Option, length}
use Rattle.trop_theory.specs.Inequalities.{Inequality}
use Rattle.trop_theory.specs.Canonical.{IsCanonical}
use Rattle.trop_theory.specs.MaxPlus.{max_ring, max_numbering}
use Rattle.trop_duality.specs.External.{IsExternal}
use Rattle.trop_duality.specs.PolarStops.{IsPolarStop}
use Rattle.prog_theory.specs.Named.{Named}
use Rattle.cone_reports.specs.Reports.{Part}
use Rattle.cone_domain.specs.Values.{Value, coordinates, cone_of}
use Rattle.mixed_theory.specs.Mixed.{mixed}
use Rattle.dom_family.specs.Family.{value_in}

-- nothing where there are no rows, else the external list of the cone
abbrev pub AreBoundsOf : Value (Option ℤ) → List (List (Option ℤ)) → List (Inequality (Option ℤ)) → Type 0
AreBoundsOf v [] printed = printed ≡ []
AreBoundsOf v (x ∷ rows) printed = IsExternal max_ring (coordinates v) (cone_of max_ring v) printed

-- the canonical list of the cone, and its external list
pub record IsSaidOf (v : Value (Option ℤ)) (part : Part (Option ℤ)) : Type 0 where
  pub canonical : IsCanonical max_ring (cone_of max_ring v) part.rows
  pub bounds : AreBoundsOf v part.rows part.printed

-- the external list of the value stops at the polar of coordinate i, of its first k rows
abbrev pub IsListStop : Value (Option ℤ) → ℕ → ℕ → Type 0
IsListStop v i k = IsPolarStop max_ring (coordinates v) v.rows i k

-- The external list of the value at this point stops there, and at no point before does one.
pub record IsFirstStop (p : Named) (values : List (Value (Option ℤ))) (point i k : ℕ) : Type 0 where
  pub inside : point < length values
  pub here : IsListStop (value_in (mixed max_ring max_numbering) p values point) i k
  pub before : (q : ℕ) → q < point → (j l : ℕ) →
      IsListStop (value_in (mixed max_ring max_numbering) p values q) j l → ⊥
