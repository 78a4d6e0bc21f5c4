-- How a run ends, from what its calls answered.
use Rattle.std.proofs.Common.{◌≡◌, ◌≤◌, ◌+◌, inl, inr, ℕ, Bool, true, false, List, [], ◌++◌, length, Option, Some, None, refl, sym, subst, ap, ◌∙◌, arith}
use Rattle.std.proofs.lemmas.List.{append-nil, length-append}
use Rattle.std.specs.Io.KnownBytes.{Consumes, IsAtEnd}
use Rattle.trop_io.specs.Faults.{Rose}
use Rattle.trop_words.specs.Words.{IsSpelled}
use Rattle.trop_words.specs.declared.command.Command.{Command}
use Rattle.trop_words.specs.declared.command.Command.TheVariants.{Reduce, Ext, Int, Tangent, Include, Equal, Join, Meet, Forget, Trace, Analyze, Check, Sample}
use Rattle.trop_words.specs.declared.command.Mode.TheVariants.{Max, Min, Mixed, Zone}
use Rattle.trop_text.specs.declared.fault.Fault.{Fault}
use Rattle.tplib_reply.specs.Meaning.{IsRunnable, OverLimit, OutOfRange}
use Rattle.tplib_poly.proofs.Late.{forget_apart}
use Rattle.tplib_cmd.proofs.Wide.{mixed_apart}
use Rattle.tplib_cmd.specs.declared.status.Status.{Status}
use Rattle.tplib_cmd.specs.declared.status.Status.TheVariants.{Done, No, BadWords, Text, TooLong, Limit, Range, ReadFault, WriteFault, NoMemory}
use Rattle.tplib_cmd.specs.Commands.{IsInRange, Said, reads, meaning_of}
use Rattle.tplib_cmd.specs.Streams.{Input, IsInput, IsInputInPart, IsTooLong, IsReadFault, HasInput, longest_input}
use Rattle.tplib_cmd.specs.Ends.{Run, Ends, EndsEarly, EndsWith, IsInOrder, IsReady, IsAnswer}

-- a whole input is a front of it
pub taken_in_part : (b : Bool) (before after : Input) (bytes : List ℕ) → IsInput b before after bytes →
    IsInputInPart b before after
taken_in_part true before after bytes h = ((bytes, h.taken, h.within), h.calm)
taken_in_part false before after bytes h = h.0

-- and no longer than the longest
pub taken_short : (b : Bool) (before after : Input) (bytes : List ℕ) → IsInput b before after bytes →
    length bytes ≤ longest_input
taken_short true before after bytes h = h.within
taken_short false before after bytes h = omega (arith, ap length h.1)

-- known bytes that were read to the end are the bytes that were left
whole : (bytes xs : List ℕ) (after : Option (List ℕ)) → Consumes (Some bytes) after xs → IsAtEnd after → xs ≡ bytes
whole bytes xs None c e = absurd c
whole bytes xs (Some ys) c e = sym (c ∙ ap (λ zs. xs ++ zs) e ∙ append-nil xs)

too_many : (bytes xs : List ℕ) (after : Option (List ℕ)) → length bytes ≤ longest_input →
    Consumes (Some bytes) after xs → length xs ≡ longest_input + 1 → ⊥
too_many bytes xs None within c e = c
too_many bytes xs (Some ys) within c e = let len : length bytes ≡ length xs + length ys =
    ap length c ∙ length-append xs ys in omega arith

-- what was taken of an input whose bytes are known
known : (b : Bool) (before after : Input) (bytes others : List ℕ) → HasInput b before after bytes →
    IsInput b before after others → others ≡ bytes
known true before after bytes others h taken = whole bytes others after.left
    (subst (λ z. Consumes z after.left others) h.0 taken.taken) taken.ended
known false before after bytes others h taken = taken.1 ∙ sym h

not_long : (b : Bool) (before after : Input) (bytes : List ℕ) → HasInput b before after bytes →
    IsTooLong b before after → ⊥
not_long true before after bytes h long = too_many bytes long.taken.0 after.left h.1
    (subst (λ z. Consumes z after.left long.taken.0) h.0 long.taken.1) long.taken.2
not_long false before after bytes h long = long

no_fault : (b : Bool) (before after : Input) (bytes : List ℕ) → HasInput b before after bytes →
    IsReadFault b before after → ⊥
no_fault true before after bytes h fault = h.2 fault.1
no_fault false before after bytes h fault = fault

-- what has a fault spells nothing
faulty : (command : Command) (bytes : List ℕ) (fault : Fault) (said : Said command) →
    (meaning_of command).faulty bytes fault → (meaning_of command).spells bytes said → ⊥
faulty Reduce bytes fault said h s = h.first.spelled said s
faulty Ext bytes fault said h s = h.first.spelled said s
faulty Tangent bytes fault said h s = h.first.spelled said s
faulty (Int false) bytes fault said h s = h.first.spelled said s
faulty (Int true) bytes fault said h s = h.first.spelled said s
faulty Include bytes fault said h s = h.first.spelled said s
faulty Equal bytes fault said h s = h.first.spelled said s
faulty Join bytes fault said h s = h.first.spelled said s
faulty Meet bytes fault said h s = h.first.spelled said s
faulty (Forget var) bytes fault said h s = forget_apart var.now bytes fault said h s
faulty (Trace turns) bytes fault said h s = h.first.spelled said s
faulty (Analyze Max delay narrow) bytes fault said h s = h.first.spelled said s
faulty (Analyze Min delay narrow) bytes fault said h s = h.first.spelled said s
faulty (Analyze Mixed delay narrow) bytes fault said h s = mixed_apart delay narrow bytes fault said h s
faulty (Analyze Zone delay narrow) bytes fault said h s = h.first.spelled said s
faulty Check bytes fault said h s = h.spelled said s
faulty (Sample seed vars rows) bytes fault said h s = h

-- a run with everything in order ends with an answer
ended : (status : Status) (command : Command) (run : Run) (bytes : List ℕ) → IsReady command run bytes →
    (Rose run.out_before.faults run.out_after.faults → ⊥) → Ends command run status → IsAnswer status
ended Done command run bytes ready calm h = tt
ended No command run bytes ready calm h = tt
ended NoMemory command run bytes ready calm h = tt
ended BadWords command run bytes ready calm h = h
ended ReadFault command run bytes ready calm h = no_fault (reads command) run.in_before run.in_after bytes ready.input
    h.0
ended TooLong command run bytes ready calm h = not_long (reads command) run.in_before run.in_after bytes ready.input h.0
ended WriteFault command run bytes ready calm h = calm h.cut.3
ended (Text fault) command run bytes ready calm h =
    let same = known (reads command) run.in_before run.in_after bytes h.bytes ready.input h.input in
    faulty command bytes fault ready.runnable.said (subst (λ z. (meaning_of command).faulty z fault) same h.refused)
    ready.runnable.spelled
ended (Limit stop) command run bytes ready calm h =
    let same = known (reads command) run.in_before run.in_after bytes h.bytes ready.input h.input in
    ready.runnable.unstopped h.refused.said (subst (λ z. (meaning_of command).spells z h.refused.said)
    same h.refused.spelled) OverLimit stop h.refused.stops
ended (Range stop) command run bytes ready calm h =
    let same = known (reads command) run.in_before run.in_after bytes h.bytes ready.input h.input in
    ready.runnable.unstopped h.refused.said (subst (λ z. (meaning_of command).spells z h.refused.said)
    same h.refused.spelled) OutOfRange stop h.refused.stops

-- the same of any words
pub ends_in_order : (words : List (List ℕ)) (run : Run) (status : Status) → EndsWith words run status →
    IsInOrder words run → IsAnswer status
ends_in_order words run status (inl h) order = ended status h.0 run order.bytes (order.each h.0 h.1) order.calm_out h.2
ends_in_order words run status (inr h) order = absurd (h.1 order.some.0 order.some.1)

-- words spell no number out of its range
pub spelled_in_range : (words : List (List ℕ)) (command : Command) → IsSpelled words command → IsInRange command
spelled_in_range words Reduce h = tt
spelled_in_range words Ext h = tt
spelled_in_range words (Int lean) h = tt
spelled_in_range words Tangent h = tt
spelled_in_range words Include h = tt
spelled_in_range words Equal h = tt
spelled_in_range words Join h = tt
spelled_in_range words Meet h = tt
spelled_in_range words (Forget var) h = tt
spelled_in_range words (Trace turns) h = h.0
spelled_in_range words (Analyze mode delay narrow) h = (h.0, h.1)
spelled_in_range words Check h = tt
spelled_in_range words (Sample seed vars rows) h = (h.0, h.1, h.2, h.3)

-- a command that does not read has no bytes
pub no_bytes : (b : Bool) (before after : Input) (bytes : List ℕ) → IsInput b before after bytes → b ≡ false →
    bytes ≡ []
no_bytes true before after bytes h e = absurd (let f : true ≡ false = e in cc)
no_bytes false before after bytes h e = h.1
