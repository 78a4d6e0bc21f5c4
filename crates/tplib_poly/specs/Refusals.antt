-- Why an operation on cones is refused, as why there is no answer.
use Rattle.trop_poly.specs.declared.error.PolyErr.{PolyErr}
use Rattle.trop_poly.specs.declared.error.PolyErr.TheVariants as errors
use Rattle.tplib_reply.specs.declared.stop.Stop.TheVariants.{Rows, Polar}
use Rattle.tplib_reply.specs.declared.refusal.Refusal.{Refusal}
use Rattle.tplib_reply.specs.declared.refusal.Refusal.TheVariants.{Limit, NoMemory}

abbrev pub refusal_of : PolyErr → Refusal
refusal_of (errors.Rows k) = Limit (Rows k)
refusal_of (errors.Polar i k) = Limit (Polar i k)
refusal_of errors.NoMemory = NoMemory
