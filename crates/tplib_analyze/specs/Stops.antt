-- Where an analysis has no report: at the first part of the work that is refused; or, where none is, at the first point
-- whose external list stops.
use Rattle.std.specs.Prelude.{ℕ, Bool}
use Rattle.trop_theory.specs.Semiring.{Semiring}
use Rattle.trop_theory.specs.Numbers.{Numbering}
use Rattle.trop_duality.specs.PolarStops.{IsPolarStop}
use Rattle.prog_theory.specs.Named.{Named}
use Rattle.cone_domain.specs.Values.{Value, coordinates}
use Rattle.cone_domain.specs.Polyhedra.{polyhedra}
use Rattle.tplib_reply.specs.declared.stop.Stop.{Stop}
use Rattle.tplib_reply.specs.Meaning.{Cause}
use Rattle.tplib_family.specs.Stops.{IsListedStop}

-- the external list of the value stops at the polar of coordinate i, of its first k rows
abbrev pub IsListStop : {V : Type 0} → Semiring V → Value V → ℕ → ℕ → Type 0
IsListStop R v i k = IsPolarStop R (coordinates v) v.rows i k

abbrev pub IsStop : {V : Type 0} → Semiring V → Numbering V → Bool → ℕ → ℕ → Named → Cause → Stop → Type 0
IsStop R N reversed delay narrow p cause stop =
    IsListedStop (polyhedra R N reversed) (IsListStop R) delay narrow p cause stop
