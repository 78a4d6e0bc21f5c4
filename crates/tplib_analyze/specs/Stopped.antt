-- The refusal of an external list, as a refusal of a command.
use Rattle.std.specs.Prelude.{ℕ}
use Rattle.trop_poly.specs.declared.error.PolyErr.{PolyErr}
use Rattle.trop_poly.specs.declared.error.PolyErr.TheVariants as cones
use Rattle.tplib_reply.specs.declared.refusal.Refusal.{Refusal}
use Rattle.tplib_reply.specs.declared.refusal.Refusal.TheVariants.{Limit, NoMemory}
use Rattle.tplib_reply.specs.declared.stop.Stop.TheVariants.{Rows, PointPolar}

-- why there is no external list at a point
abbrev pub list_refusal : PolyErr → ℕ → Refusal
list_refusal (cones.Rows k) point = Limit (Rows k)
list_refusal (cones.Polar i k) point = Limit (PointPolar point i k)
list_refusal cones.NoMemory point = NoMemory
