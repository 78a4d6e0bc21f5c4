-- What is said over the semiring of a file, as what a command means: reply_over, refusal_over.
use Rattle.std.proofs.Common.{ℕ, Bool, List, Result, Ok, Err, IfOk}
use Rattle.std.specs.Prelude.{IfErr}
use Rattle.trop_spelling.specs.Over.{Over, OverMax, OverMin, OverBool, Holds}
use Rattle.tplib_reply.specs.declared.stop.Stop.{Stop}
use Rattle.tplib_reply.specs.declared.refusal.Refusal.{Refusal}
use Rattle.tplib_reply.specs.declared.refusal.Refusal.TheVariants.{Text, Limit, Range, NoMemory}
use Rattle.tplib_reply.specs.declared.refusal.Reply.{Reply}
use Rattle.tplib_reply.specs.Meaning.{Meaning, Cause, OverLimit, OutOfRange, IsAnswered, IsReply, IsRefused}
use Rattle.tplib_poly.specs.InRing.{RingMeaning, stops_over, answers_over, IsOverReply, IsOverRefusal}

nothing_over : {F : Type 0 → Type 0} (v : Over F) → Holds (λ V kind R N x. ⊥) v → ⊥
nothing_over (OverMax x) h = h
nothing_over (OverMin x) h = h
nothing_over (OverBool x) h = h

module _ {F : Type 0 → Type 0} (ring : RingMeaning F) (names : List (List ℕ)) where
  unstopped_over : (v : Over F) (says : Bool) (text : List ℕ) → IsOverReply ring names v says text →
      (cause : Cause) (stop : Stop) → stops_over ring names v cause stop → ⊥
  unstopped_over (OverMax x) says text h = h.unstopped
  unstopped_over (OverMin x) says text h = h.unstopped
  unstopped_over (OverBool x) says text h = h.unstopped

  answered_over : (v : Over F) (says : Bool) (text : List ℕ) → IsOverReply ring names v says text →
      answers_over ring names v says text
  answered_over (OverMax x) says text h = h.answer
  answered_over (OverMin x) says text h = h.answer
  answered_over (OverBool x) says text h = h.answer

  module _ {A : Type 0} (M : Meaning A) (bytes : List ℕ) (said : A) (v : Over F) (spelled : M.spells bytes said) where
    answer_over : (says : Bool) (text : List ℕ) → ((cause : Cause) (stop : Stop) → M.stops said cause stop →
        stops_over ring names v cause stop) → (answers_over ring names v says text → M.answers said says text)
        → IsOverReply ring names v says text → IsAnswered M bytes says text
    answer_over says text stops answers h = record {
      said = said;
      spelled = spelled;
      unstopped =
          λ cause stop s. unstopped_over v says text h cause stop (stops cause stop s);
      answer =
          answers (answered_over v says text h);
    }

    pub reply_over : ((cause : Cause) (stop : Stop) → M.stops said cause stop → stops_over ring names v cause stop) →
        ((says : Bool) (text : List ℕ) → answers_over ring names v says text → M.answers said says text)
        → (r : Result Reply Refusal) → IfOk r (λ reply. IsOverReply ring names v reply.yes reply.text.items) →
        IfOk r (IsReply M bytes)
    reply_over stops answers (Ok reply) h = answer_over reply.yes reply.text.items stops
        (answers reply.yes reply.text.items) h
    reply_over stops answers (Err refusal) h = tt

    refused_over : ((cause : Cause) (stop : Stop) → stops_over ring names v cause stop → M.stops said cause stop) →
        (refusal : Refusal) → IsOverRefusal ring names v refusal → IsRefused M bytes refusal
    refused_over stops (Text fault) h = absurd (nothing_over v h)
    refused_over stops (Limit stop) h = record { said = said; spelled = spelled; stops = stops OverLimit stop h }
    refused_over stops (Range stop) h = record { said = said; spelled = spelled; stops = stops OutOfRange stop h }
    refused_over stops NoMemory h = tt

    pub refusal_over : ((cause : Cause) (stop : Stop) → stops_over ring names v cause stop → M.stops said cause stop) →
        (r : Result Reply Refusal) → IfErr r (IsOverRefusal ring names v) → IfErr r (IsRefused M bytes)
    refusal_over stops (Ok reply) h = tt
    refusal_over stops (Err refusal) h = refused_over stops refusal h
