-- The domain of zones: which calls on zones are refused, and its relations.
use Rattle.std.specs.Prelude.{◌≡◌, ◌<◌, ◌^◌, ℕ, ℤ, Some, unsigned_abs}
use Rattle.prog_theory.specs.Fits.{FitsOp}
use Rattle.prog_theory.specs.Edges.{Op}
use Rattle.dom_theory.specs.Refusals.{At, Whole, Kept}
use Rattle.dom_theory.specs.Relations.{Relations, Call, Apply, Join, Widen, Cause, OutOfRange}
use Rattle.zone_theory.specs.Matrices.{Matrix}
use Rattle.zone_theory.specs.Width.{numbers}
use Rattle.zone_theory.specs.Domain.{Zone, HasState, bottom, top, Within, Applied, Joined, Widened, zone_width, max_width}

-- the greatest size of a bound
abbrev pub most_bound : ℕ
most_bound = 2 ^ 40

-- a bound has too great a size
pub record IsTooLarge (x : Zone) : Type 0 where
  pub matrix : Matrix
  pub bounds_are : x.bounds ≡ Some matrix
  pub row : ℕ
  pub column : ℕ
  pub bound : ℤ
  pub stands : matrix row column ≡ Some bound
  pub large : most_bound < unsigned_abs bound

-- the second is the image of the first, whose variables the operation names
abbrev pub IsImageOf : Op → Zone → Zone → Type 0
IsImageOf op x y = FitsOp x.vars op × Applied op x y

-- What the call gives has too large a bound. A widening is judged as a whole, behind all of its kept bounds.
abbrev pub IsRefused : Call Zone → Cause → At → Type 0
IsRefused (Apply op x) cause part =
    (cause ≡ OutOfRange) × (part ≡ Whole) × (y : Zone) × IsImageOf op x y × IsTooLarge y
IsRefused (Join x other) cause part =
    (cause ≡ OutOfRange) × (part ≡ Whole) × (y : Zone) × Joined x other y × IsTooLarge y
IsRefused (Widen x next) cause part =
    (cause ≡ OutOfRange) × (y : Zone) × (w : Widened x next y) × (part ≡ Kept (numbers x.vars w.keeps)) × IsTooLarge y

abbrev pub zones : Relations Zone
zones = record {
  vars = λ x. x.vars;
  bottom = bottom;
  top = top;
  has = HasState;
  within = Within;
  applied = IsImageOf;
  joined = Joined;
  widened = Widened;
  refused = IsRefused;
  width = zone_width;
  max_width = max_width;
}
