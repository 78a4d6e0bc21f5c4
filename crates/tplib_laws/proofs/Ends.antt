-- How a run of a command ends whose input is known and spells something: ends_rightly.
use Rattle.std.proofs.Common.{◌≡◌, ◌≤◌, ◌+◌, ℕ, Bool, true, false, List, ◌++◌, length, Option, Some, None, sym, subst, ap, ◌∙◌, arith, append-nil, length-append}
use Rattle.std.specs.Io.KnownBytes.{Consumes, IsAtEnd}
use Rattle.trop_io.specs.Faults.{Rose}
use Rattle.trop_words.specs.declared.command.Command.{Command}
use Rattle.trop_text.specs.declared.fault.Fault.{Fault}
use Rattle.tplib_reply.specs.declared.stop.Stop.{Stop}
use Rattle.tplib_reply.specs.Meaning.{Cause, OverLimit, OutOfRange, IsAnswered, IsStopped}
use Rattle.tplib_cmd.specs.declared.status.Status.{Status}
use Rattle.tplib_cmd.specs.declared.status.Status.TheVariants.{Done, No, BadWords, Text, TooLong, Limit, Range, ReadFault, WriteFault, NoMemory}
use Rattle.tplib_cmd.specs.Commands.{Said, reads, meaning_of}
use Rattle.tplib_cmd.specs.Streams.{Input, IsInput, IsTooLong, IsReadFault, longest_input}
use Rattle.tplib_cmd.specs.Ends.{Run, Ends}
use Rattle.tplib_laws.specs.RoundTrips.{EndsRightly}

-- ---- what is read of an input whose bytes are known

whole : (bytes xs : List ℕ) (after : Option (List ℕ)) → Consumes (Some bytes) after xs → IsAtEnd after → xs ≡ bytes
whole bytes xs None c e = absurd c
whole bytes xs (Some ys) c e = sym (c ∙ ap (λ zs. xs ++ zs) e ∙ append-nil xs)

too_many : (bytes xs : List ℕ) (after : Option (List ℕ)) → length bytes ≤ longest_input →
    Consumes (Some bytes) after xs → length xs ≡ longest_input + 1 → ⊥
too_many bytes xs None within c e = c
too_many bytes xs (Some ys) within c e = let len : length bytes ≡ length xs + length ys =
    ap length c ∙ length-append xs ys in omega arith

module _ (before after : Input) (text : List ℕ) (known : before.left ≡ Some text) where
  known_input : (b : Bool) (bytes : List ℕ) → b ≡ true → IsInput b before after bytes → bytes ≡ text
  known_input true bytes e h = whole text bytes after.left (subst (λ z. Consumes z after.left bytes) known h.taken)
      h.ended
  known_input false bytes e h = absurd (let f : false ≡ true = e in cc)

  not_long : (b : Bool) → length text ≤ longest_input → IsTooLong b before after → ⊥
  not_long true short long = too_many text long.taken.0 after.left short
      (subst (λ z. Consumes z after.left long.taken.0) known long.taken.1) long.taken.2
  not_long false short long = long

fault_rose : (b : Bool) (before after : Input) → IsReadFault b before after → Rose before.faults after.faults
fault_rose true before after h = h.1
fault_rose false before after h = absurd h

-- ---- the run

-- The text spells one thing for the command. Each answer to it says yes and is of Right, and each stop of it is one of
-- Stops.
pub record IsTakenBack (command : Command) (text : List ℕ) (said : Said command) (Right : List ℕ → Type 0)
    (Stops : Stop → Type 0) : Type 0 where
  pub read : reads command ≡ true
  pub short : length text ≤ longest_input
  pub spelled : (meaning_of command).spells text said
  pub only : (other : Said command) → (meaning_of command).spells text other → other ≡ said
  pub sound : (fault : Fault) → (meaning_of command).faulty text fault → ⊥
  pub right : (says : Bool) (answer : List ℕ) → (meaning_of command).answers said says answer →
      (says ≡ true) × Right answer
  pub stops : (cause : Cause) (stop : Stop) → (meaning_of command).stops said cause stop →
      (cause ≡ OverLimit) × Stops stop

module _ (command : Command) (text : List ℕ) (said : Said command) (Right : List ℕ → Type 0) (Stops : Stop → Type 0)
    (to : IsTakenBack command text said Right Stops) (run : Run) (known : run.in_before.left ≡ Some text) where
  same : (bytes : List ℕ) → IsInput (reads command) run.in_before run.in_after bytes → bytes ≡ text
  same bytes h = known_input run.in_before run.in_after text known (reads command) bytes to.read h

  answered : (bytes : List ℕ) (says : Bool) (answer : List ℕ) →
      IsInput (reads command) run.in_before run.in_after bytes →
      IsAnswered (meaning_of command) bytes says answer → (says ≡ true) × Right answer
  answered bytes says answer input h =
      let is = to.only h.said (subst (λ z. (meaning_of command).spells z h.said) (same bytes input) h.spelled) in
      to.right says answer (subst (λ s. (meaning_of command).answers s says answer) is h.answer)

  stopped : (bytes : List ℕ) (cause : Cause) (stop : Stop) →
      IsInput (reads command) run.in_before run.in_after bytes →
      IsStopped (meaning_of command) bytes cause stop → (cause ≡ OverLimit) × Stops stop
  stopped bytes cause stop input h =
      let is = to.only h.said (subst (λ z. (meaning_of command).spells z h.said) (same bytes input) h.spelled) in
      to.stops cause stop (subst (λ s. (meaning_of command).stops s cause stop) is h.stops)

  pub ends_rightly : (status : Status) → Ends command run status → EndsRightly Right Stops run status
  ends_rightly Done h = (h.text, (answered h.bytes true h.text h.input h.answered).1, h.written)
  ends_rightly No h = absurd (let e : false ≡ true = (answered h.bytes false h.text h.input h.answered).0 in cc)
  ends_rightly BadWords h = h
  ends_rightly (Text fault) h = to.sound fault
      (subst (λ z. (meaning_of command).faulty z fault) (same h.bytes h.input) h.refused)
  ends_rightly TooLong h = not_long run.in_before run.in_after text known (reads command) to.short h.0
  ends_rightly (Limit stop) h = ((stopped h.bytes OverLimit stop h.input h.refused).1, h.unwritten)
  ends_rightly (Range stop) h = absurd (let e : OutOfRange ≡ OverLimit =
      (stopped h.bytes OutOfRange stop h.input h.refused).0 in cc)
  ends_rightly ReadFault h = (fault_rose (reads command) run.in_before run.in_after h.0, h.1)
  ends_rightly WriteFault h = (h.text, (answered h.bytes h.yes h.text h.input h.answered).1, h.cut)
  ends_rightly NoMemory h = h.1
