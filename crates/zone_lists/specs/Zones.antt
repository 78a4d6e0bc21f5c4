-- Zones in lists, as the values of an analysis: each relation is that of the zones which the lists stand for.
use Rattle.std.specs.Prelude.{◌*◌, ℕ, suc, List, replicate, Option, Some, None}
use Rattle.dom_theory.specs.Relations.{Relations, Call, Apply, Join, Widen}
use Rattle.zone_theory.specs.Bounds.{Bound}
use Rattle.zone_theory.specs.Matrices.{Matrix}
use Rattle.zone_theory.specs.Domain.{Zone, HasState, Within, Joined, Widened, zone_width, max_width}
use Rattle.zone_theory.specs.Relations.{IsImageOf, IsRefused}
use Rattle.zone_tables.specs.Tables.{matrix_of, IsTable}

-- the matrix of a list over so many variables
abbrev pub matrix_in : ℕ → List Bound → Matrix
matrix_in vars bounds = matrix_of (suc vars) bounds

abbrev pub matrix_if : ℕ → Option (List Bound) → Option Matrix
matrix_if vars None = None
matrix_if vars (Some bounds) = Some (matrix_in vars bounds)

-- the bounds are none for the empty zone, and the kept ones none before the first widening
pub record ZoneList : Type 0 where
  pub vars : ℕ
  pub bounds : Option (List Bound)
  pub kept : Option (List Bound)

-- the zone that it stands for
abbrev pub zone_of : ZoneList → Zone
zone_of x = record { vars = x.vars; bounds = matrix_if x.vars x.bounds; kept = matrix_if x.vars x.kept }

abbrev pub IsTableIf : ℕ → Option (List Bound) → Type 0
IsTableIf vars None = Unit {0}
IsTableIf vars (Some bounds) = IsTable (suc vars) bounds

-- the lists have a place for each pair of coordinates and no more
pub record IsListed (x : ZoneList) : Type 0 where
  pub bounds : IsTableIf x.vars x.bounds
  pub kept : IsTableIf x.vars x.kept

abbrev pub zone_call : Call ZoneList → Call Zone
zone_call (Apply op x) = Apply op (zone_of x)
zone_call (Join x other) = Join (zone_of x) (zone_of other)
zone_call (Widen x next) = Widen (zone_of x) (zone_of next)

abbrev pub empty : ℕ → ZoneList
empty n = record { vars = n; bounds = None; kept = None }

abbrev pub whole : ℕ → ZoneList
whole n = record { vars = n; bounds = Some (replicate (suc n * suc n) None); kept = None }

abbrev pub zone_lists : Relations ZoneList
zone_lists = record {
  vars = λ x. x.vars;
  bottom = empty;
  top = whole;
  has = λ x s. HasState (zone_of x) s;
  within = λ x y. Within (zone_of x) (zone_of y);
  applied = λ op x y. IsImageOf op (zone_of x) (zone_of y) × IsListed y;
  joined = λ x other y. Joined (zone_of x) (zone_of other) (zone_of y) × IsListed y;
  widened = λ x next y. Widened (zone_of x) (zone_of next) (zone_of y) × IsListed y;
  refused = λ call cause at. IsRefused (zone_call call) cause at;
  width = λ x. zone_width (zone_of x);
  max_width = max_width;
}
