-- What a command means on the body of a file, said once over any semiring and its numbering.
use Rattle.std.specs.Prelude.{ℕ, Bool, List}
use Rattle.trop_theory.specs.Semiring.{Semiring}
use Rattle.trop_theory.specs.Numbers.{Numbering}
use Rattle.trop_text.specs.declared.fault.Fault.{Fault}
use Rattle.trop_spelling.specs.declared.ring_kind.RingKind.{RingKind}
use Rattle.trop_spelling.specs.Over.{Over, Holds}
use Rattle.tplib_reply.specs.declared.stop.Stop.{Stop}
use Rattle.tplib_reply.specs.declared.refusal.Refusal.{Refusal}
use Rattle.tplib_reply.specs.declared.refusal.Refusal.TheVariants.{Text, Limit, Range, NoMemory}
use Rattle.tplib_reply.specs.Meaning.{Meaning, Cause, OverLimit, OutOfRange}

-- of a body over F, in the variables with these names
pub record RingMeaning (F : Type 0 → Type 0) : Type 1 where
  -- the computation stops for this cause, there
  pub stops : List (List ℕ) → (V : Type 0) → RingKind → Semiring V → Numbering V → F V → Cause → Stop → Type 0
  -- the answer says says or no, and has this text
  pub answers : List (List ℕ) → (V : Type 0) → RingKind → Semiring V → Numbering V → F V → Bool → List ℕ → Type 0

module _ {F : Type 0 → Type 0} (M : RingMeaning F) (names : List (List ℕ)) where
  -- nothing stops the computation, and this is the answer
  pub record IsRingReply (V : Type 0) (kind : RingKind) (R : Semiring V) (N : Numbering V) (body : F V) (says : Bool)
      (text : List ℕ) : Type 0 where
    pub unstopped : (cause : Cause) (stop : Stop) → M.stops names V kind R N body cause stop → ⊥
    pub answer : M.answers names V kind R N body says text

  -- why there is no answer; want of memory is free
  abbrev pub IsRingRefusal : (V : Type 0) → RingKind → Semiring V → Numbering V → F V → Refusal → Type 0
  IsRingRefusal V kind R N body (Text fault) = ⊥
  IsRingRefusal V kind R N body (Limit stop) = M.stops names V kind R N body OverLimit stop
  IsRingRefusal V kind R N body (Range stop) = M.stops names V kind R N body OutOfRange stop
  IsRingRefusal V kind R N body NoMemory = Unit {0}

  abbrev pub stops_over : Over F → Cause → Stop → Type 0
  stops_over body cause stop = Holds (λ V kind R N x. M.stops names V kind R N x cause stop) body

  abbrev pub answers_over : Over F → Bool → List ℕ → Type 0
  answers_over body says text = Holds (λ V kind R N x. M.answers names V kind R N x says text) body

  -- the same over the semiring of a file
  abbrev pub IsOverReply : Over F → Bool → List ℕ → Type 0
  IsOverReply body says text = Holds (λ V kind R N x. IsRingReply V kind R N x says text) body

  abbrev pub IsOverRefusal : Over F → Refusal → Type 0
  IsOverRefusal body refusal = Holds (λ V kind R N x. IsRingRefusal V kind R N x refusal) body
