-- Why a list was not made lean, as why there is no answer.
use Rattle.trop_lean.specs.declared.error.LeanErr.{LeanErr}
use Rattle.trop_lean.specs.declared.error.LeanErr.TheVariants as errors
use Rattle.tplib_reply.specs.declared.stop.Stop.TheVariants.{Lean}
use Rattle.tplib_reply.specs.declared.refusal.Refusal.{Refusal}
use Rattle.tplib_reply.specs.declared.refusal.Refusal.TheVariants.{Limit, NoMemory}

abbrev pub refusal_of : LeanErr → Refusal
refusal_of (errors.Rows k j) = Limit (Lean k j)
refusal_of errors.NoMemory = NoMemory
