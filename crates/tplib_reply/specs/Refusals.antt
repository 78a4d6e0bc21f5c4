-- Why a text was not read, as why there is no answer.
use Rattle.trop_text.specs.declared.fault.TextErr.{TextErr}
use Rattle.trop_text.specs.declared.fault.TextErr.TheVariants as errors
use Rattle.tplib_reply.specs.declared.refusal.Refusal.{Refusal}
use Rattle.tplib_reply.specs.declared.refusal.Refusal.TheVariants.{Text, NoMemory}

abbrev pub refusal_of : TextErr → Refusal
refusal_of (errors.Fault fault) = Text fault
refusal_of errors.NoMemory = NoMemory
