-- A state of a zone meets each bound that is printed of it.
use Rattle.std.proofs.Common.{ℕ, Option, Some, None, get_or}
use Rattle.std.proofs.lemmas.List.{get_or_default}
use Rattle.prog_theory.specs.States.{State}
use Rattle.zone_theory.specs.Matrices.{Matrix}
use Rattle.zone_theory.specs.Limits.{limits}
use Rattle.zone_theory.specs.Zones.{Has, IsValue}
use Rattle.zone_theory.specs.Domain.{Zone, HasState, IsNormalValue}
use Rattle.zone_theory.proofs.MatrixCloses.{zone-limits}
use Rattle.zone_theory.proofs.Inclusion.{IsZoneOn}
use Rattle.tplib_zone.specs.Zone.{IsClosedOn, MeetsMatrix, MeetsBounds}

matrix-met : (d : ℕ) (b : Option Matrix) (s : State) → Has d b s → MeetsMatrix d b s
matrix-met d None s h = h
matrix-met d (Some m) s h = λ k e l. zone-limits d m s h (get_or (limits d m) k e)
    (k, l, get_or_default (limits d m) k (get_or (limits d m) k e) e l)

pub bounds_met : (x : Zone) (s : State) → HasState x s → MeetsBounds x s
bounds_met x s h = matrix-met x.vars x.bounds s h

value-closed : (d : ℕ) (b : Option Matrix) → IsNormalValue d b → IsValue d b
value-closed d None v = tt
value-closed d (Some m) v = v.0

-- what the domain makes is closed
pub zone_closed : (d : ℕ) (x : Zone) → IsZoneOn d x → IsClosedOn d x
zone_closed d x on = (on.1, value-closed d x.bounds on.0)
