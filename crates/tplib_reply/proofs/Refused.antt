-- Why there is no answer: bytes that were not read, and want of memory.
use Rattle.std.proofs.Common.{◌≡◌, ℕ, List, refl, sym, subst}
use Rattle.trop_text.specs.declared.fault.Fault.{Fault}
use Rattle.trop_text.specs.declared.fault.TextErr.{TextErr}
use Rattle.trop_text.specs.declared.fault.TextErr.TheVariants as errors
use Rattle.tplib_reply.specs.declared.refusal.Refusal.{Refusal}
use Rattle.tplib_reply.specs.declared.refusal.Refusal.TheVariants.{NoMemory}
use Rattle.tplib_reply.specs.Refusals.{refusal_of}
use Rattle.tplib_reply.specs.Meaning.{Meaning, IsRefused}

module _ {A : Type 0} (M : Meaning A) (bytes : List ℕ) where
  refused_for : (e : TextErr) → ((f : Fault) → e ≡ errors.Fault f → M.faulty bytes f) → IsRefused M bytes (refusal_of e)
  refused_for (errors.Fault f) h = h f refl
  refused_for errors.NoMemory h = tt

  pub IsRefused-text : (e : TextErr) (refusal : Refusal) → refusal ≡ refusal_of e →
      ((f : Fault) → e ≡ errors.Fault f → M.faulty bytes f) → IsRefused M bytes refusal
  IsRefused-text e refusal is h = subst (IsRefused M bytes) (sym is) (refused_for e h)

  pub IsRefused-memory : (refusal : Refusal) → refusal ≡ NoMemory → IsRefused M bytes refusal
  IsRefused-memory refusal is = subst (IsRefused M bytes) (sym is) tt
